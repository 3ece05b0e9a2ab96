-- The room before the index is added up.
use Rattle.packing.specs.Most.{capacity}
use Rattle.packing.specs.Code.Engine.{max_byte}
use Rattle.packing.proofs.Loops.{Added}
use Rattle.packing.proofs.total.Given as goal

abbrev pub invariant-loop-r : goal.invariant-loop-r
invariant-loop-r l = Added (capacity l.room) max_byte 6 l.r-index l.all
