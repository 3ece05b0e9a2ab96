-- The places before i hold the room with what is had back.
use Prim.Native.Nat.{◌+◌, ◌*◌}
use mathlib.Core.Path.{◌≡◌}
use Rattle.packing.specs.Packing.{bit}
use Rattle.packing.specs.Most.{capacity}
use Rattle.packing.proofs.Loops.{Filled}
use Rattle.odometer.proofs.give_back.Given as goal

abbrev pub invariant-loop-i : goal.invariant-loop-i
invariant-loop-i l = Filled (λ k y. y ≡ capacity l.left k + l.n * bit k l.m) 6 l.out l.i
