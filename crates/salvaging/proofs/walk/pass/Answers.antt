-- No byte up to `at` is a `C`.
use Prim.Native.Nat.{◌+◌}
use native.Mathlib.Omega.{arith}
use Rattle.salvaging.proofs.Starts.{no_c-none, no_c-on}
use Rattle.salvaging.proofs.walk.pass.Goals as goal

pub loop-at-init : goal.loop-at-init
loop-at-init c = (omega arith, omega arith, no_c-none c.args.s.now c.args.from)

pub overflow_add-at : goal.overflow_add-at
overflow_add-at c = omega (arith, c.loop-at-test.true)

pub loop-at-smaller : goal.loop-at-smaller
loop-at-smaller c = omega (arith, c.loop-at-test.true)

pub loop-at-preserved : goal.loop-at-preserved
loop-at-preserved c = let l = c.loop-at in
    (omega arith, omega (arith, c.loop-at-test.true), no_c-on c.args.s.now c.args.from l.at (l.at + 4) l.invariant.2 (c.has_c.ensures (c.if-not-has_c.true)))

pub returns-else-not-has_c : goal.returns-else-not-has_c
returns-else-not-has_c c = c.loop-at.invariant

pub returns-after-loop-at : goal.returns-after-loop-at
returns-after-loop-at c = c.loop-at.invariant
