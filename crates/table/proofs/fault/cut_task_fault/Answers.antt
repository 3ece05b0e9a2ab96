-- The mark, and where that is right, the rest is missing.
use borrow.Author.Tests.{lt-ltb}
use Rattle.search.specs.Choice.{◌when◌else◌}
use Rattle.table.specs.Fault.{◌then◌, task_rest_fault, task_fault}
use Rattle.table.proofs.Firsts.{handed_on}
use Rattle.table.proofs.fault.cut_task_fault.Goals as goal

pub returns-in_err-task_mark_fault : goal.returns-in_err-task_mark_fault
unfolding task_fault task_rest_fault ◌then◌ ◌when◌else◌
returns-in_err-task_mark_fault c = rw (handed_on _ c.from_residual.ensures.1, ← c.task_mark_fault.ensures, c.in_err-task_mark_fault.was)

pub returns : goal.returns
unfolding task_fault task_rest_fault ◌then◌ ◌when◌else◌
returns c = rw (← c.task_mark_fault.ensures, c.in_ok-task_mark_fault.was, lt-ltb _ _ c.requires.1)
