-- What has room beside the uses tried so far has room with them.
use Prim.Native.Nat.{◌≤◌}
use Rattle.packing.specs.Most.{capacity}
use Rattle.packing.proofs.Tries.{Tried}
use Rattle.packing.proofs.first_try.Given as goal

abbrev pub invariant-loop-n : goal.invariant-loop-n
invariant-loop-n l = (l.found ≤ l.limit) × Tried l.kept l.count (capacity l.room) l.n (capacity l.left) l.found
