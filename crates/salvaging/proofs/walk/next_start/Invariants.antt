-- Nothing from the start up to `at` starts like a record.
use Prim.Native.Nat.{ℕ, ◌-◌, ◌<◌, ◌≤◌}
use mathlib.Core.Path.{◌≡◌}
use mathlib.Core.Bool.{true}
use mathlib.Core.List.{List}
use lib.ListN.{length}
use Rattle.salvaging.specs.Code.Walk.{starts_like}
use Rattle.salvaging.proofs.walk.next_start.Given as goal

abbrev pub NoneUp : List ℕ → ℕ → ℕ → Type 0
NoneUp s from at = (j : ℕ) → from ≤ j → j < at → starts_like s j ≡ true → ⊥

abbrev pub invariant-loop-at : goal.invariant-loop-at
invariant-loop-at l = (l.from ≤ l.at) × (l.at ≤ length l.s) × NoneUp l.s l.from l.at

abbrev pub decreases-loop-at : goal.decreases-loop-at
decreases-loop-at l = length l.s - l.at
