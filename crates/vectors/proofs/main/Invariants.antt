-- No more cases are as expected than were run, and those that were run come before this one.
use Rattle.std.proofs.Common.{◌≤◌}
use Rattle.vectors.proofs.main.Given as goal

abbrev pub invariant-loop-number : goal.invariant-loop-number
invariant-loop-number l = (l.as_expected ≤ l.all) × (l.all ≤ l.number)
