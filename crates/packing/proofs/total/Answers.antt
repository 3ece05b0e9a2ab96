-- The room before the index is added up.
use Rattle.packing.specs.Code.Engine.{max_byte}
use Rattle.packing.proofs.Loops.{added-start, added-on}
use borrow.Author.Rules.{rules}
use Rattle.packing.proofs.total.Goals as goal

pub loop-r-init : goal.loop-r-init
loop-r-init c = added-start _ max_byte 6

pub loop-r-preserved : goal.loop-r-preserved
loop-r-preserved c = added-on c.loop-r.invariant (search rules) c.from-all.ensures (search rules)
