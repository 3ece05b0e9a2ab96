-- No more are above 0 than were looked at.
use Prim.Native.Nat.{◌≤◌}
use Rattle.packing.proofs.weights.digits.Given as goal

abbrev pub invariant-loop-i : goal.invariant-loop-i
invariant-loop-i l = l.some ≤ l.i
