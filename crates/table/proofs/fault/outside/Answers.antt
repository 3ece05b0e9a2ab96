-- Each of the two tests decides.
use borrow.Author.Tests.{lt-ltb, le-ltb}
use Rattle.table.proofs.fault.outside.Goals as goal

pub returns-then-x-low : goal.returns-then-x-low
returns-then-x-low c = simp (lt-ltb _ _ c.if-x-low.true)

pub returns-else-x-low : goal.returns-else-x-low
returns-else-x-low c = simp (le-ltb _ _ c.if-x-low.false)
