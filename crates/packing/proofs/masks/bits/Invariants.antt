-- The places before i hold their bits.
use mathlib.Core.Path.{◌≡◌}
use Rattle.packing.specs.Packing.{bit}
use Rattle.packing.proofs.Loops.{Filled}
use Rattle.packing.proofs.masks.bits.Given as goal

abbrev pub invariant-loop-i : goal.invariant-loop-i
invariant-loop-i l = Filled (λ k x. x ≡ bit k l.m) 6 l.out l.i
