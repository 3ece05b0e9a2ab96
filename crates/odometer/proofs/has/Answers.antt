-- (m >> i) & 1 is the bit i of m.
use Prim.Native.Nat.{◌/◌, ◌^◌}
use native.Mathlib.Omega.{arith}
use lib.Bits.{and_mask}
use Rattle.odometer.proofs.has.Goals as goal

pub overflow_cast-result : goal.overflow_cast-result
overflow_cast-result c = omega (arith, and_mask (c.args.m / 2 ^ c.args.i) 1)

pub returns : goal.returns
returns c = and_mask (c.args.m / 2 ^ c.args.i) 1
