-- The two bytes, by the definition of a number.
use Rattle.table.specs.Bytes.{word}
use native.Mathlib.Omega.{arith}
use Rattle.table.proofs.bytes.u16_at.Goals as goal

pub returns : goal.returns
unfolding word
returns c = omega (arith, c.from-2.ensures, c.from.ensures)
