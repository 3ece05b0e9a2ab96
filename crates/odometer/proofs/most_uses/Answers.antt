-- It goes on until it is over; each packing leaves less ahead.
use borrow.Author.Tests.{not-true, not-false}
use native.Mathlib.Omega.{arith}
use Rattle.odometer.proofs.Turns.{gone-most}
use Rattle.odometer.proofs.Ahead.{ahead-falls}
use Rattle.odometer.proofs.most_uses.Goals as goal

pub loop-o-init : goal.loop-o-init
loop-o-init c = c.start-o.ensures _

pub next-o-requires : goal.next-o-requires
next-o-requires c = (not-true _ c.loop-o-test.true, record { room = _; gone = c.loop-o.invariant })

pub loop-o-smaller : goal.loop-o-smaller
loop-o-smaller c = ahead-falls c.loop-o.invariant (not-true _ c.loop-o-test.true) (omega arith) c.next-o.ensures

pub loop-o-preserved : goal.loop-o-preserved
loop-o-preserved c = c.next-o.ensures.still _ c.loop-o.invariant

pub returns : goal.returns
returns c = gone-most c.loop-o.invariant (not-false _ c.loop-o-test.false)
