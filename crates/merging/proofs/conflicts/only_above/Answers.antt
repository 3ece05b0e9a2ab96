-- Case by case.
use mathlib.Core.Path.{sym}
use borrow.Author.Tests.{lt-ltb, le-ltb}
use native.Mathlib.Omega.{arith}
use Rattle.search.proofs.Choice.{when_yes, when_no}
use Rattle.merging.proofs.conflicts.only_above.Goals as goal

pub returns-then-n-above : goal.returns-then-n-above
returns-then-n-above c = let a = c.args in sym (when_no _ _ (le-ltb a.above a.n c.if-n-above.true))

pub returns-else-n-above : goal.returns-else-n-above
returns-else-n-above c = let a = c.args in sym (when_yes _ _ (lt-ltb a.above a.n (omega (arith, c.if-n-above.false))))
