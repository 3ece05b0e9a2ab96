-- The places before i hold the room that is left.
use Prim.Native.Nat.{◌-◌, ◌*◌}
use mathlib.Core.Path.{◌≡◌}
use Rattle.packing.specs.Packing.{bit}
use Rattle.packing.specs.Most.{capacity}
use Rattle.packing.proofs.Loops.{Filled}
use Rattle.packing.proofs.masks.spend.Given as goal

abbrev pub invariant-loop-i : goal.invariant-loop-i
invariant-loop-i l = Filled (λ k y. y ≡ capacity l.room k - l.x * bit k l.m) 6 l.out l.i
