-- Each verdict in turn.
use mathlib.Core.Path.{sym, ◌∙◌}
use Rattle.table.specs.Read.{unless}
use Rattle.table.proofs.Firsts.{handed_on}
use Rattle.merging.specs.declared.Unmerged.TheVariants.{Ancestor, First, Second}
use Rattle.merging.specs.Code.Judged.{judged_of}
use Rattle.merging.proofs.Judgements.{mapped, mapped-ok, mapped-stops}
use Rattle.merging.proofs.judged.judge_all.Goals as goal

pub returns-in_err-map_err : goal.returns-in_err-map_err
unfolding judged_of
returns-in_err-map_err c =
    handed_on _ c.from_residual.ensures.1 ∙ rw (← c.judge.ensures) (sym (mapped-stops Ancestor _ _ c.map_err.ensures.cases c.in_err-map_err.was _))

pub returns-in_err-map_err-2 : goal.returns-in_err-map_err-2
unfolding judged_of unless
returns-in_err-map_err-2 c = let o = mapped-ok Ancestor _ _ c.map_err.ensures.cases c.in_ok-map_err.was in
    handed_on _ c.from_residual-in_err-map_err-2.ensures.1
    ∙ rw (← c.judge.ensures, o, ← c.judge-2.ensures) (sym (mapped-stops First _ _ c.map_err-2.ensures.cases c.in_err-map_err-2.was _))

pub returns : goal.returns
unfolding judged_of unless
returns c = let o = mapped-ok Ancestor _ _ c.map_err.ensures.cases c.in_ok-map_err.was in
    let q = mapped-ok First _ _ c.map_err-2.ensures.cases c.in_ok-map_err-2.was in
    rw (← c.judge.ensures, o, ← c.judge-2.ensures, q, ← c.judge-3.ensures) (mapped Second _ _ c.map_err-3.ensures.cases)
