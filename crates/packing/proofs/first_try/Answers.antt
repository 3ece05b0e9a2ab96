-- What has room beside the uses tried so far has room with them.
use native.Mathlib.Omega.{arith}
use Rattle.packing.proofs.Tries.{tried_start, tried_on, tried_end}
use borrow.Author.Rules.{rules}
use Rattle.packing.proofs.first_try.Goals as goal

pub loop-n-init : goal.loop-n-init
loop-n-init c = (search rules, tried_start)

pub spend-left-requires : goal.spend-left-requires
spend-left-requires c = let f = c.fitting-uses.ensures in (omega (arith, f.few, c.requires.1), f.enough)

pub loop-n-preserved : goal.loop-n-preserved
loop-n-preserved c = let f = c.fitting-uses.ensures in
    (omega (arith, f.few, c.loop-n.invariant.0), tried_on (omega arith) f c.spend-left.ensures c.loop-n.invariant.1)

pub returns : goal.returns
returns c = tried_end c.loop-n.invariant.1
