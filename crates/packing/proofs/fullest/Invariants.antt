-- No packing has more than `need` uses, of those up to `limit`: first by the linear bound, then since `need` uses have no room.
use Rattle.packing.specs.Most.{capacity}
use Rattle.packing.specs.Code.Engine.{Ceiling}
use Rattle.packing.proofs.fullest.Given as goal

abbrev pub invariant-loop-shares : goal.invariant-loop-shares
invariant-loop-shares l = Ceiling l.kept l.count (capacity l.room) l.limit l.need

abbrev pub decreases-loop-shares : goal.decreases-loop-shares
decreases-loop-shares l = l.need
