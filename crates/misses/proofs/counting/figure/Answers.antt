-- A product of two numbers of 32 bits fits 64.
use native.Mathlib.Omega.{arith}
use native.Mathlib.Nat.{mul-le-mul}
use Prim.Native.Nat.{◌≤◌}
use Rattle.misses.proofs.counting.figure.Goals as goal

pub overflow_mul-all : goal.overflow_mul-all
overflow_mul-all c = let l : c.args.late ≤ 4294967295 = omega arith in
    let u : c.args.uses ≤ 4294967295 = omega arith in
    rw (c.from.ensures, c.from-2.ensures) (omega (arith, mul-le-mul l u))
