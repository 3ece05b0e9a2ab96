-- Only places. Any choice of weightings is sound.
use Prim.Native.Nat.{◌≤◌}
use Rattle.packing.specs.Code.Engine.{max_chosen}
use Rattle.packing.proofs.weights.choose.Given as goal

abbrev pub invariant-loop-v : goal.invariant-loop-v
invariant-loop-v l = l.used ≤ max_chosen
