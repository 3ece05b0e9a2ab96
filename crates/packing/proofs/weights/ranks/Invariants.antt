-- The places before i hold ranks.
use Prim.Native.Nat.{◌<◌}
use Rattle.packing.proofs.Loops.{Filled}
use Rattle.packing.proofs.weights.ranks.Given as goal

abbrev pub invariant-loop-i : goal.invariant-loop-i
invariant-loop-i l = Filled (λ k x. x < 6) 6 l.out l.i
