-- The places before i hold the room with what is had back.
use Prim.Native.Nat.{◌+◌, ◌*◌, ◌≤◌}
use Rattle.packing.specs.Most.{capacity}
use Rattle.packing.proofs.Loops.{filled_on}
use borrow.Author.Rules.{rules}
use Rattle.odometer.proofs.give_back.Goals as goal
use Rattle.odometer.proofs.give_back.Goals.{After-has}

-- the room of i stays a byte
fits : (c : After-has) → capacity c.args.left c.loop-i.i + c.args.n * c.has.result ≤ 255
fits c = rw c.has.ensures (c.requires c.loop-i.i (search rules))

pub loop-i-preserved : goal.loop-i-preserved
loop-i-preserved c = filled_on c.loop-i.invariant (search rules) (rw c.has.ensures)
