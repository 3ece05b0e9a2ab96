-- The combinations below m are gone through.
use Rattle.packing.proofs.Kept.{kept-start}
use Rattle.packing.proofs.masks.minimal.Goals as goal

pub loop-m-init : goal.loop-m-init
loop-m-init c = kept-start _ _ c.requires
