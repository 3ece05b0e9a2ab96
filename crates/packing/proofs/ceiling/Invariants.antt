-- The weightings before v leave no more than r.
use Rattle.packing.specs.Most.{capacity}
use Rattle.packing.specs.Code.Engine.{Ceiling}
use Rattle.packing.proofs.ceiling.Given as goal

abbrev pub invariant-loop-v : goal.invariant-loop-v
invariant-loop-v l = Ceiling l.kept l.count (capacity l.room) l.limit l.r
