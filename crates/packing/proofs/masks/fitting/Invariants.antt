-- The active segments before i are gone through.
use Rattle.packing.specs.Most.{capacity}
use Rattle.packing.specs.Code.Engine.{Fitting}
use Rattle.packing.proofs.masks.fitting.Given as goal

abbrev pub invariant-loop-i : goal.invariant-loop-i
invariant-loop-i l = Fitting l.m (capacity l.room) l.need l.i l.x
