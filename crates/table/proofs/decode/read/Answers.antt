-- An accepted table is decoded.
use native.Mathlib.Omega.{arith}
use mathlib.Core.Path.{sym, ◌∙◌}
use Rattle.table.specs.Read.{read_table}
use Rattle.table.proofs.Accepted.{taken}
use Rattle.table.proofs.Firsts.{handed_on}
use Rattle.table.proofs.decode.read.Goals as goal

pub rows-requires : goal.rows-requires
rows-requires c = taken c.args.s.now (λ i. omega (arith, c.type_inv.s i)) (sym c.judge.ensures ∙ c.in_ok-judge.was)

pub returns-in_err-judge : goal.returns-in_err-judge
returns-in_err-judge c = rw (handed_on _ c.from_residual.ensures.1, ← c.judge.ensures, c.in_err-judge.was)

pub returns : goal.returns
returns c = rw (← c.judge.ensures, c.in_ok-judge.was, c.rows.ensures)
