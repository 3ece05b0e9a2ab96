-- The test of the form.
use Rattle.search.specs.Choice.{◌when◌else◌}
use Rattle.table.specs.Record.{flag_at}
use Rattle.table.proofs.record.flag_at.Goals as goal

pub returns-then-has_flag : goal.returns-then-has_flag
unfolding flag_at ◌when◌else◌
returns-then-has_flag c = rw (← c.form_at.ensures, ← c.has_flag.ensures, c.if-has_flag.true)

pub returns : goal.returns
unfolding flag_at ◌when◌else◌
returns c = rw (← c.form_at.ensures, ← c.has_flag.ensures, c.if-has_flag.false)
