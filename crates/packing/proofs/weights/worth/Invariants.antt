-- As many weigh least as were weighed, at most. Any choice is sound.
use Prim.Native.Nat.{◌≤◌}
use Rattle.packing.proofs.weights.worth.Given as goal

abbrev pub invariant-loop-m : goal.invariant-loop-m
invariant-loop-m l = l.equal ≤ l.m-index
