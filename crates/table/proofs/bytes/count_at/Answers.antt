-- A byte is below 256.
use native.Mathlib.Omega.{arith}
use Rattle.table.proofs.bytes.count_at.Goals as goal

pub returns : goal.returns
returns c = (c.from.ensures, omega (arith, c.from.ensures, c.type_inv.s c.args.at))
