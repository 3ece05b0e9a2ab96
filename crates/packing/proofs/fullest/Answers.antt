-- No packing has more than `need` uses, of those up to `limit`: first by the linear bound, then since `need` uses have no room.
use native.Mathlib.Omega.{arith}
use Rattle.packing.proofs.Tries.{some_fit, ceiling-fewer}
use Rattle.packing.proofs.fullest.Goals as goal

pub overflow_sub-need : goal.overflow_sub-need
overflow_sub-need c = some_fit _ (c.has_room.ensures.not c.loop-shares-test.true)

pub loop-shares-smaller : goal.loop-shares-smaller
loop-shares-smaller c = omega (arith, some_fit _ (c.has_room.ensures.not c.loop-shares-test.true))

pub loop-shares-preserved : goal.loop-shares-preserved
loop-shares-preserved c = ceiling-fewer c.loop-shares.invariant (c.has_room.ensures.not c.loop-shares-test.true)

pub returns : goal.returns
returns c = record { ceiling = c.loop-shares.invariant; fits = c.has_room.ensures.so c.loop-shares-test.false }
