-- What was read so far is within the buffer.
use Rattle.std.proofs.Common.{◌≤◌, ◌-◌, length}
use Rattle.input.proofs.come_in.Given as goal

abbrev pub invariant-loop-used : goal.invariant-loop-used
invariant-loop-used g l = l.used ≤ length l.buffer

abbrev pub decreases-loop-used : goal.decreases-loop-used
decreases-loop-used g l = length l.buffer - l.used
