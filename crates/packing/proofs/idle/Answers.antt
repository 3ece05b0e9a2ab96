-- Only that the numbers are small.
use Prim.Native.Nat.{◌*◌, ◌≤◌}
use native.Mathlib.Omega.{arith}
use native.Mathlib.Nat.{mul-le-mul}
use Rattle.packing.specs.Code.Engine.{max_room, max_weight}
use Rattle.packing.proofs.idle.Goals as goal

pub overflow_mul-spent : goal.overflow_mul-spent
overflow_mul-spent c = let p : c.args.w * c.args.x ≤ max_weight * max_room = mul-le-mul c.requires.0 c.requires.1 in
    omega arith
