-- The weightings before v leave no more choices than x.
use Rattle.packing.specs.Most.{capacity}
use Rattle.packing.specs.Code.Engine.{Choices}
use Rattle.packing.proofs.choices.Given as goal

abbrev pub invariant-loop-v : goal.invariant-loop-v
invariant-loop-v l = Choices l.kept l.wanted.last (capacity l.room) l.wanted.need l.x
