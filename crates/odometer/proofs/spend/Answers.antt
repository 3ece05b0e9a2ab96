-- The places before i hold the room that is left.
use Prim.Native.Nat.{◌≤◌}
use native.Mathlib.Omega.{arith}
use Rattle.packing.specs.Most.{capacity}
use Rattle.packing.proofs.Loops.{filled_on}
use borrow.Author.Rules.{rules}
use Rattle.odometer.proofs.spend.Goals as goal
use Rattle.odometer.proofs.spend.Goals.{After-has}

-- the room of i is enough
enough : (c : After-has) → c.has.result ≤ capacity c.args.left c.loop-i.i
enough c = rw c.has.ensures (c.requires c.loop-i.i (search rules))

pub overflow_sub-out : goal.overflow_sub-out
overflow_sub-out c = enough c

pub loop-i-preserved : goal.loop-i-preserved
loop-i-preserved c = filled_on c.loop-i.invariant (search rules) (omega (arith, enough c, c.has.ensures))
