-- It goes on until it is over; each packing leaves less ahead.
use Rattle.packing.specs.Most.{flagged, capacity}
use Rattle.odometer.specs.Code.Gone.{Gone}
use Rattle.odometer.proofs.Ahead.{ahead}
use Rattle.odometer.proofs.most_uses.Given as goal

abbrev pub invariant-loop-o : goal.invariant-loop-o
invariant-loop-o l = Gone (flagged l.bad) (capacity l.room) l.o

abbrev pub decreases-loop-o : goal.decreases-loop-o
decreases-loop-o l = ahead l.o
