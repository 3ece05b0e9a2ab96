-- The product is that of a number below 2 to the 32nd and one of at most 8.
use Prim.Native.Nat.{◌+◌, ◌≤◌}
use native.Mathlib.Omega.{arith}
use native.Mathlib.Nat.{mul-le-mul_left}
use Rattle.writing.proofs.judged.beyond.Goals as goal

pub overflow_mul-result : goal.overflow_mul-result
overflow_mul-result c = let h : c.args.i + 1 ≤ 8 = omega (arith, c.requires) in
    rw c.from.ensures (omega (arith, mul-le-mul_left c.args.gap h))
