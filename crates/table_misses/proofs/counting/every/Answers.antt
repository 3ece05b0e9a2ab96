-- It goes on until it is over; each step leaves less ahead.
use borrow.Author.Tests.{not-true}
use Rattle.std.proofs.Common.{arith}
use Rattle.odometer.proofs.Ahead.{ahead-falls}
use Rattle.table_misses.proofs.counting.every.Goals as goal

pub loop-o-init : goal.loop-o-init
loop-o-init g c = c.start-o.ensures _

pub loop-o-smaller : goal.loop-o-smaller
loop-o-smaller g c = ahead-falls c.loop-o.invariant (not-true _ c.loop-o-test.true) (omega arith) c.turn-o.ensures
