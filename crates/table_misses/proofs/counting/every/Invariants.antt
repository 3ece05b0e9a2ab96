-- It goes on until it is over; each step leaves less ahead.
use Rattle.packing.specs.Most.{flagged}
use Rattle.packing.specs.Most.{capacity as capacityIn}
use Rattle.odometer.specs.Code.Gone.{Gone}
use Rattle.odometer.proofs.Ahead.{ahead}
use Rattle.table_misses.proofs.counting.every.Given as goal

abbrev pub invariant-loop-o : goal.invariant-loop-o
invariant-loop-o g l = Gone (flagged l.bad) (capacityIn l.capacity) l.o

abbrev pub decreases-loop-o : goal.decreases-loop-o
decreases-loop-o g l = ahead l.o
