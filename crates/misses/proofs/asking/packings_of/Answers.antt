-- By the table's verdict.
use mathlib.Core.Path.{sym, ◌∙◌}
use native.Mathlib.Omega.{arith}
use Rattle.table.proofs.Accepted.{taken}
use Rattle.table.proofs.Firsts.{handed_on}
use Rattle.arrivals.specs.Arrivals.{δ}
use Rattle.misses.specs.Code.Packings.{test_of}
use Rattle.misses.proofs.Answers.{tested-refused, tested-accepted}
use Rattle.misses.proofs.Leading.{leads_refused, leads_same}
use Rattle.misses.proofs.asking.packings_of.Goals as goal

pub packings_in-requires : goal.packings_in-requires
packings_in-requires c = taken c.args.table.now (λ k. omega (arith, c.type_inv.table k)) (sym c.judge.ensures ∙ c.in_ok-judge.was)

pub returns-in_err-judge : goal.returns-in_err-judge
returns-in_err-judge c = let a = c.args in
    leads_refused (handed_on _ c.from_residual.ensures.1) (sym (tested-refused δ (test_of a.how) a.table.now a.id a.k (sym c.judge.ensures ∙ c.in_err-judge.was)))

pub returns : goal.returns
returns c = let a = c.args in
    leads_same c.packings_in.ensures (sym (tested-accepted δ (test_of a.how) a.table.now a.id a.k (sym c.judge.ensures ∙ c.in_ok-judge.was)))
