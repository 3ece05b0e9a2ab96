-- The digits below m went back to 0, those from m on are as they were (`Turning`).
use Prim.Native.Nat.{ℕ, ◌≤◌, ◌<◌}
use mathlib.Core.Path.{◌≡◌}
use mathlib.Core.Bool.{false}
use Rattle.packing.specs.Most.{flagged}
use Rattle.odometer.specs.Code.Gone.{uses_of, Gone}
use Rattle.odometer.proofs.Turns.{Turning}
use Rattle.odometer.proofs.Odometer.next.Given as goal

abbrev pub invariant-loop-m : goal.invariant-loop-m
invariant-loop-m l = (l.o.over ≡ false) × ((x : ℕ) → l.m ≤ x → x < 64 → uses_of l.o x ≡ uses_of l.initial.o x)
    × ((room : ℕ → ℕ) → Gone (flagged l.bad) room l.initial.o → Turning (flagged l.bad) room l.m l.o)
