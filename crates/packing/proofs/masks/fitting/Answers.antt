-- The active segments before i are gone through.
use Rattle.packing.proofs.masks.fitting.Goals as goal

pub loop-i-preserved : goal.loop-i-preserved
loop-i-preserved c = c.lesser-x.ensures _ c.loop-i.invariant
