-- None of the first i tasks has a wrong value.
use Prim.Native.Nat.{ℕ, ◌<◌}
use mathlib.Core.Path.{◌≡◌}
use mathlib.Core.Bool.{true}
use Rattle.writing.specs.Code.Tally.{task_wrong}
use Rattle.writing.proofs.judged.tasks_refusal.Given as goal

abbrev pub invariant-loop-i : goal.invariant-loop-i
invariant-loop-i l = (j : ℕ) → j < l.i → task_wrong l.priority l.cost j ≡ true → ⊥
