-- Either way by the test.
use Rattle.search.specs.Choice.{◌when◌else◌}
use Rattle.writing.proofs.put.refused_if.Goals as goal

pub returns-then-called : goal.returns-then-called
unfolding ◌when◌else◌
returns-then-called c = rw c.if-called.true

pub returns-else-called : goal.returns-else-called
unfolding ◌when◌else◌
returns-else-called c = rw c.if-called.false
