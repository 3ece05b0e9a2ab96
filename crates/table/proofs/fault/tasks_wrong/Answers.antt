-- Each of the two tests decides.
use Rattle.table.proofs.fault.tasks_wrong.Goals as goal

pub returns-then-outside : goal.returns-then-outside
returns-then-outside c = rw (c.if-outside.true, ← c.from.ensures, ← c.outside.ensures, c.if-outside.true)

pub returns-else-outside : goal.returns-else-outside
returns-else-outside c = rw (c.from-else-outside.ensures, ← c.from.ensures, ← c.outside.ensures, c.if-outside.false)
