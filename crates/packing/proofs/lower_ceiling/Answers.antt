-- What is packed weighs d at least for each use, and no more than the room.
use native.Mathlib.Omega.{arith}
use Rattle.packing.proofs.Cut.{ceiling-low}
use Rattle.packing.proofs.lower_ceiling.Goals as goal

pub returns : goal.returns
returns c = rw c.min.ensures (ceiling-low c.floor-d.ensures.0 c.weigh-all.ensures.0 (omega (arith, c.if-d-eq0.false)))
