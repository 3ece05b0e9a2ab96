-- The table's own fault comes first.
use native.Mathlib.Omega.{arith}
use mathlib.Core.Path.{sym, ◌∙◌}
use Rattle.table.proofs.Accepted.{taken}
use Rattle.table.proofs.Firsts.{handed_on}
use Rattle.converting.proofs.Results.{refused-table}
use Rattle.converting.proofs.put.convert.Goals as goal

pub put_table-requires : goal.put_table-requires
put_table-requires c = let e = sym c.judge.ensures ∙ c.in_ok-judge.was in
    (taken c.args.s.now (λ k. omega (arith, c.type_inv.s k)) e, e)

pub returns-in_err-judge : goal.returns-in_err-judge
returns-in_err-judge c = rw (handed_on _ c.from_residual.ensures.1) (refused-table c.args.to c.args.s.now c.args.out.now (sym c.judge.ensures ∙ c.in_err-judge.was))
