-- Case by case.
use mathlib.Core.Path.{sym}
use native.Mathlib.Omega.{arith}
use Rattle.merging.proofs.Leasts.{lesser-left, lesser-right, lesser-both}
use Rattle.merging.proofs.conflicts.lesser.Goals as goal

pub returns-then-n-eq0 : goal.returns-then-n-eq0
returns-then-n-eq0 c = let a = c.args in rw c.if-n-eq0.true (sym (lesser-left a.m))

pub returns-then-m-eq0 : goal.returns-then-m-eq0
returns-then-m-eq0 c = let a = c.args in rw c.if-m-eq0.true (sym (lesser-right a.n))

pub returns : goal.returns
returns c = omega (arith, lesser-both c.args.n c.args.m (omega (arith, c.if-n-eq0.false)) (omega (arith, c.if-m-eq0.false)))
