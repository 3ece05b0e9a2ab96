-- The test of the form.
use native.Mathlib.Omega.{arith}
use Rattle.search.specs.Choice.{◌when◌else◌}
use Rattle.table.specs.Record.{gap_width}
use Rattle.table.proofs.record.gap_width.Goals as goal

pub returns-then-has_flag : goal.returns-then-has_flag
unfolding gap_width ◌when◌else◌
returns-then-has_flag c = (rw (← c.has_flag.ensures, c.if-has_flag.true), omega arith)

pub returns-else-has_flag : goal.returns-else-has_flag
unfolding gap_width ◌when◌else◌
returns-else-has_flag c = (rw (← c.has_flag.ensures, c.if-has_flag.false), omega arith)
