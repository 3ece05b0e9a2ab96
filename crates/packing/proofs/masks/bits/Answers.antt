-- The places before i hold their bits.
use Rattle.packing.proofs.Loops.{filled_on}
use borrow.Author.Rules.{rules}
use Rattle.packing.proofs.masks.bits.Goals as goal

pub loop-i-preserved : goal.loop-i-preserved
loop-i-preserved c = filled_on c.loop-i.invariant (search rules) c.has.ensures
