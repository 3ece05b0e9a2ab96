-- The weightings before v leave no more choices than x.
use Rattle.packing.proofs.Tries.{choices_start}
use Rattle.packing.proofs.choices.Goals as goal

pub loop-v-init : goal.loop-v-init
loop-v-init c = choices_start c.fitting-x.ensures
