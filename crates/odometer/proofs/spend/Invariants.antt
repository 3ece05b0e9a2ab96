-- The places before i hold the room that is left.
use Prim.Native.Nat.{◌+◌}
use mathlib.Core.Path.{◌≡◌}
use Rattle.packing.specs.Packing.{bit}
use Rattle.packing.specs.Most.{capacity}
use Rattle.packing.proofs.Loops.{Filled}
use Rattle.odometer.proofs.spend.Given as goal

abbrev pub invariant-loop-i : goal.invariant-loop-i
invariant-loop-i l = Filled (λ k y. y + bit k l.m ≡ capacity l.left k) 6 l.out l.i
