-- No more cases are right than were run, and those that were run come before this one.
use Rattle.std.proofs.Common.{◌≤◌, ◌<◌}
use Rattle.cases.proofs.run.Given as goal

abbrev pub invariant-loop-number : goal.invariant-loop-number
invariant-loop-number g l = (l.right ≤ l.cases) × (l.cases < l.number)
