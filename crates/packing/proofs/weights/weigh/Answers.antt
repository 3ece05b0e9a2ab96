-- The shares before i, each times its amount, are added up.
use Prim.Native.Nat.{ℕ, ◌*◌, ◌≤◌}
use mathlib.Core.Path.{ap₂}
use native.Mathlib.Omega.{arith}
use native.Mathlib.Nat.{mul-le-mul}
use Rattle.packing.specs.Code.Engine.{weight, max_byte}
use Rattle.packing.proofs.Loops.{added-start, added-on, added-end}
use borrow.Author.Rules.{rules}
use Rattle.packing.proofs.weights.weigh.Goals as goal

-- a share times an amount
product : {x y : ℕ} → x ≤ max_byte → y ≤ max_byte → x * y ≤ max_byte * max_byte
product h k = mul-le-mul h k

pub loop-i-init : goal.loop-i-init
loop-i-init c = added-start _ (max_byte * max_byte) 6

pub loop-i-preserved : goal.loop-i-preserved
loop-i-preserved c = added-on c.loop-i.invariant (search rules)
    (ap₂ ◌*◌ c.from.ensures c.from-in-loop-i.ensures) (product (omega arith) (omega arith))

pub returns : goal.returns
unfolding weight
returns c = added-end c.loop-i.invariant (search rules)
