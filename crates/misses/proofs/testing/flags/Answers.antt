-- The loop's invariant: the sets below m have their flags.
use mathlib.Core.Path.{◌∙◌}
use native.Mathlib.Omega.{arith}
use Rattle.windows.proofs.Flags.{byte_when}
use Rattle.misses.proofs.Fills.{filled_none, filled_on}
use Rattle.misses.proofs.testing.flags.Goals as goal

pub loop-m-init : goal.loop-m-init
loop-m-init c = filled_none _ 64

pub loop-m-preserved : goal.loop-m-preserved
loop-m-preserved c = let l = c.loop-m in
    filled_on _ _ l.out l.m c.from.result l.invariant (omega arith) (c.from.ensures ∙ byte_when _)

pub returns : goal.returns
returns c m h = c.loop-m.invariant.each m (omega arith)
