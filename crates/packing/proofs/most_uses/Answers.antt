-- The kept combinations have as many uses as the bad ones, and there are never more than all the room there is.
use native.Mathlib.Omega.{arith}
use Rattle.packing.specs.Most.{flagged, capacity}
use Rattle.packing.proofs.Kept.{kept-up-to}
use Rattle.packing.proofs.Most.{most-room}
use Rattle.packing.proofs.most_uses.Goals as goal

pub returns : goal.returns
returns c = let a = c.args in
    omega (arith, kept-up-to c.minimal-count.ensures c.fullest.ensures, c.total.ensures.0, most-room (flagged a.bad.now) (capacity a.room.now))
