-- By what is tried: fewer uses of the last kept combination come into question with each turn. The measure is n.
use Rattle.packing.specs.Most.{capacity}
use Rattle.packing.specs.Code.Engine.{Choices}
use Rattle.packing.proofs.+has_room.Given as goal

abbrev pub decreases-has_room : goal.decreases-has_room
decreases-has_room l = l.n

abbrev pub invariant-loop-uses : goal.invariant-loop-uses
invariant-loop-uses l = Choices l.kept l.last (capacity l.room) l.need l.uses
