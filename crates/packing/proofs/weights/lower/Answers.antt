-- By which is less.
use mathlib.Core.Path.{◌≡◌, ◌∙◌}
use native.Mathlib.Omega.{arith}
use Rattle.packing.specs.Packing.{bit}
use Rattle.packing.specs.Code.Engine.{weight}
use Rattle.packing.proofs.Cut.{weight_ext}
use Rattle.packing.proofs.weights.lower.Goals as goal

-- What m weighs, by its bits.
pub returns : goal.returns
returns c = let w : c.weigh.result ≡ weight c.args.shares.now c.args.v (λ i. bit i c.args.m) = c.weigh.ensures.0 ∙ weight_ext _ _ _ _ c.bits.ensures in
    (omega arith, omega arith)
