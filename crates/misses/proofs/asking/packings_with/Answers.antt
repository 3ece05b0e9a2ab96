-- What is refused before any window or by the windows, or what these leave.
use mathlib.Core.Path.{◌≡◌, ap, sym, ◌∙◌}
use native.Mathlib.Omega.{arith}
use Rattle.table.specs.Find.{row_of}
use Rattle.table.specs.declared.Table.{Table}
use Rattle.table.specs.Read.{table_of}
use Rattle.table.proofs.Firsts.{handed_on}
use Rattle.table.proofs.Stands.{row-there, stands}
use Rattle.windows.specs.Demand.{views_of}
use Rattle.misses.specs.Misses.{early_of}
use Rattle.misses.specs.Code.Packings.{test_of}
use Rattle.misses.proofs.Answers.{at-early, at_bound}
use Rattle.misses.proofs.Leading.{leads_refused, leads_same}
use Rattle.misses.proofs.Limits.{asked}
use Rattle.misses.proofs.asking.packings_with.Goals as goal
use Rattle.misses.proofs.asking.packings_with.Goals.{After-early, Start}

abbrev t : (c : Start) → Table
t c = table_of c.args.s.now

-- what is refused before any window
judged : (c : After-early) → c.early.result ≡ early_of (row_of (table_of c.args.s.now) c.args.chain) c.args.k
judged c = c.early.ensures ∙ ap (λ r. early_of r c.args.k) (row-there c.requires.0 c.place.ensures c.requires.1)

pub place-requires : goal.place-requires
place-requires c = let p = c.requires in (p.0, omega (arith, p.1))

pub early-requires : goal.early-requires
early-requires c = let p = c.requires in omega (arith, (stands p.0 c.place.ensures p.1).there)

pub returns-in_err-early : goal.returns-in_err-early
returns-in_err-early c =
    leads_refused (handed_on _ c.from_residual.ensures.1)
    (sym (at-early (test_of c.args.how) (t (goal.at.returns-in_err-early c).Start) c.args.chain c.args.k (sym (judged (goal.at.returns-in_err-early c).After-early) ∙ c.in_err-early.was)))

-- the windows are those of the chain
pub returns-in_err-w : goal.returns-in_err-w
returns-in_err-w c =
    leads_refused (handed_on _ c.from_residual-in_err-w.ensures.1)
    (sym (at_bound (test_of c.args.how) (t (goal.at.returns-in_err-w c).Start) c.args.chain c.args.k (sym (judged (goal.at.returns-in_err-w c).After-early) ∙ c.in_ok-early.was) (sym c.requires.2 ∙ c.in_err-w.was)))

pub by_figures-requires : goal.by_figures-requires
by_figures-requires c = let a = c.args in
    let p = c.requires in
    let b = t (goal.at.by_figures-requires c).Start in
    (p.0, p.1, asked (row_of b a.chain) (p.0.good.row a.chain p.1) (views_of b a.chain) a.k _ (sym (judged (goal.at.by_figures-requires c).After-early) ∙ c.in_ok-early.was) (sym p.2 ∙ c.in_ok-w.was))

pub returns : goal.returns
returns c = leads_same c.by_figures.ensures
    (sym (at_bound (test_of c.args.how) (t (goal.at.returns c).Start) c.args.chain c.args.k (sym (judged (goal.at.returns c).After-early) ∙ c.in_ok-early.was) (sym c.requires.2 ∙ c.in_ok-w.was)))
