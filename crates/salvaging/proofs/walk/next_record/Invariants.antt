-- Nothing from the start up to `at` is acceptable, and there the bytes start like a record.
use Prim.Native.Nat.{ℕ, ◌-◌, ◌<◌, ◌≤◌}
use mathlib.Core.Path.{◌≡◌}
use mathlib.Core.Bool.{true}
use mathlib.Core.List.{List}
use lib.ListN.{length}
use Rattle.table.specs.declared.Table.{Table}
use Rattle.salvaging.specs.Kept.{acceptable}
use Rattle.salvaging.specs.Code.Walk.{Knows, starts_like}
use Rattle.salvaging.proofs.walk.next_record.Given as goal

-- none is acceptable from `from` on before `at`
pub record Passed (s : List ℕ) (from : ℕ) (t : Table) (at : ℕ) : Type 0 where
  pub none : (j : ℕ) → from ≤ j → j < at → acceptable s j t ≡ true → ⊥

abbrev pub invariant-loop-at : goal.invariant-loop-at
invariant-loop-at l = (l.from ≤ l.at) × (l.at ≤ length l.s) × (l.at < length l.s → starts_like l.s l.at ≡ true) × ((t : Table) → Knows l.before l.form t → Passed l.s l.from t l.at)

abbrev pub decreases-loop-at : goal.decreases-loop-at
decreases-loop-at l = length l.s - l.at
