-- At each return the tests so far, and the mark, are what the calls gave.
use borrow.Author.Tests.{lt-ltb, le-ltb}
use Rattle.search.specs.Choice.{◌when◌else◌}
use Rattle.table.specs.Fault.{task_mark_fault}
use Rattle.table.proofs.Marks.{no_task-other}
use Rattle.table.proofs.fault.task_mark_fault.Goals as goal

pub returns-then-s-at : goal.returns-then-s-at
unfolding task_mark_fault ◌when◌else◌
returns-then-s-at c = rw (lt-ltb _ _ c.if-s-at.true)

pub returns-in-Task : goal.returns-in-Task
unfolding task_mark_fault ◌when◌else◌
returns-in-Task c = rw (le-ltb _ _ c.if-s-at.false, ← c.u16_at.ensures, ← c.mark_of.ensures, c.in-Task.is)

pub returns-in_default : goal.returns-in_default
unfolding task_mark_fault ◌when◌else◌
returns-in_default c = rw (le-ltb _ _ c.if-s-at.false, ← c.u16_at.ensures, ← c.mark_of.ensures, no_task-other _ c.args.at c.in_default.not-Task)
