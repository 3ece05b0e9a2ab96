-- The count is below m.
use Prim.Native.Nat.{◌-◌, ◌<◌, ◌≤◌}
use Rattle.packing.proofs.weights.holders.Given as goal

abbrev pub invariant-loop-m : goal.invariant-loop-m
invariant-loop-m l = (l.held < l.m) × (l.m ≤ 64)

abbrev pub decreases-loop-m : goal.decreases-loop-m
decreases-loop-m l = 64 - l.m
