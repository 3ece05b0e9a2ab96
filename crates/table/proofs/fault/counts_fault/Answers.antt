-- At each return the tests so far, in order, are what the calls gave.
use Rattle.search.specs.Choice.{◌when◌else◌}
use Rattle.table.specs.Fault.{counts_fault}
use Rattle.table.proofs.Forms.{listed-before, tasks-before}
use Rattle.table.proofs.fault.counts_fault.Goals as goal

pub returns-then-outside : goal.returns-then-outside
unfolding counts_fault ◌when◌else◌
returns-then-outside c at e = rw (← listed-before _ _ at e, ← c.from.ensures, ← c.outside.ensures, c.if-outside.true)

pub returns-then-tasks_wrong : goal.returns-then-tasks_wrong
unfolding counts_fault ◌when◌else◌
returns-then-tasks_wrong c at e = rw (← listed-before _ _ at e, ← tasks-before _ _ at e, ← c.from.ensures, ← c.outside.ensures, c.if-outside.false, ← c.tasks_wrong.ensures, c.if-tasks_wrong.true)

pub returns : goal.returns
unfolding counts_fault ◌when◌else◌
returns c at e = rw (← listed-before _ _ at e, ← tasks-before _ _ at e, ← c.from.ensures, ← c.outside.ensures, c.if-outside.false, ← c.tasks_wrong.ensures, c.if-tasks_wrong.false)
