-- Each id is greater than the one before.
use Rattle.std.proofs.Common.{◌-◌}
use Rattle.table_merge.proofs.put_ids.Given as goal

abbrev pub decreases-loop-is_written : goal.decreases-loop-is_written
decreases-loop-is_written g l = 4294967296 - l.above
