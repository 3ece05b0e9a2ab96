-- By the table's verdict: what is left to be packed, packed.
use mathlib.Core.Path.{◌≡◌, ap, sym, ◌∙◌}
use native.Mathlib.Omega.{arith}
use Rattle.std.specs.declared.result.Result.TheVariants.{Ok}
use Rattle.table.proofs.Accepted.{taken}
use Rattle.table.proofs.Firsts.{handed_on}
use Rattle.arrivals.specs.Arrivals.{δ}
use Rattle.misses.specs.Bad.{by_windows}
use Rattle.misses.specs.Misses.{misses_of}
use Rattle.misses.specs.Code.Packings.{answer_by}
use Rattle.misses.proofs.Answers.{tested-refused, tested-accepted}
use Rattle.misses.proofs.counting.misses.Goals as goal
use Rattle.misses.proofs.counting.misses.Goals.{After-packings_in}

-- what is left leads to the answer
leads : (c : After-packings_in) → answer_by c.args.k c.packings_in.result ≡ misses_of c.args.table.now c.args.id c.args.k
leads c = let a = c.args in
    c.packings_in.ensures.is ∙ sym (tested-accepted δ by_windows a.table.now a.id a.k (sym c.judge.ensures ∙ c.in_ok-judge.was))

pub returns-in_err-judge : goal.returns-in_err-judge
returns-in_err-judge c = let a = c.args in
    handed_on _ c.from_residual.ensures.1 ∙ sym (tested-refused δ by_windows a.table.now a.id a.k (sym c.judge.ensures ∙ c.in_err-judge.was))

pub packings_in-requires : goal.packings_in-requires
packings_in-requires c = taken c.args.table.now (λ k. omega (arith, c.type_inv.table k)) (sym c.judge.ensures ∙ c.in_ok-judge.was)

pub returns-in_err-left : goal.returns-in_err-left
returns-in_err-left c = handed_on _ c.from_residual-in_err-left.ensures.1 ∙ ap (answer_by c.args.k) (sym c.in_err-left.was) ∙ leads (goal.at.returns-in_err-left c).After-packings_in

pub packed-requires : goal.packed-requires
packed-requires c = c.packings_in.ensures.within _ c.in_ok-left.was

pub returns : goal.returns
returns c = ap Ok c.packed.ensures ∙ ap (answer_by c.args.k) (sym c.in_ok-left.was) ∙ leads (goal.at.returns c).After-packings_in
