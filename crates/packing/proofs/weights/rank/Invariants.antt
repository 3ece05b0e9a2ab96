-- Those before j that come before i, which is none of them.
use Prim.Native.Nat.{◌<◌, ◌≤◌}
use Rattle.packing.proofs.weights.rank.Given as goal

abbrev pub invariant-loop-j : goal.invariant-loop-j
invariant-loop-j l = (l.before ≤ l.j) × (l.i < l.j → l.before < l.j)
