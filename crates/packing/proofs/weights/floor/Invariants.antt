-- None of the kept combinations before j weighs less than d.
use Prim.Native.Nat.{◌≤◌}
use Rattle.packing.specs.Code.Engine.{Floor}
use Rattle.packing.proofs.weights.floor.Given as goal

abbrev pub invariant-loop-j : goal.invariant-loop-j
invariant-loop-j l = (l.d ≤ l.most) × Floor l.kept l.shares l.j l.v l.d
