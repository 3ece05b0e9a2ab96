-- The weightings before v leave no more than r.
use Rattle.packing.proofs.ceiling.Goals as goal

pub loop-v-preserved : goal.loop-v-preserved
loop-v-preserved c = c.lower_ceiling-r.ensures.lower _ c.loop-v.invariant
