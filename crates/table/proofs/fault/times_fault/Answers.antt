-- At each return the tests so far, in order, are what the calls gave.
use borrow.Author.Tests.{lt-ltb, le-ltb}
use Rattle.search.specs.Choice.{◌when◌else◌}
use Rattle.table.specs.Fault.{times_fault}
use Rattle.table.proofs.fault.times_fault.Goals as goal

pub returns-then-outside : goal.returns-then-outside
unfolding times_fault ◌when◌else◌
returns-then-outside c = rw (← c.deadline_at.ensures, ← c.outside.ensures, c.if-outside.true)

pub returns-then-gap-gt-GAP : goal.returns-then-gap-gt-GAP
unfolding times_fault ◌when◌else◌
returns-then-gap-gt-GAP c = rw (← c.deadline_at.ensures, ← c.outside.ensures, c.if-outside.false, ← c.requires.1, lt-ltb _ _ c.if-gap-gt-GAP.true)

pub returns : goal.returns
unfolding times_fault ◌when◌else◌
returns c = rw (← c.deadline_at.ensures, ← c.outside.ensures, c.if-outside.false, ← c.requires.1, le-ltb _ _ c.if-gap-gt-GAP.false)
