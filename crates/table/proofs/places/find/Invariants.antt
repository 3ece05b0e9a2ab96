-- None of the chains before `chain` bears the id; its record starts at `at`.
use Prim.Native.Nat.{ℕ, ◌≤◌, ◌<◌, ◌-◌}
use mathlib.Core.Path.{◌≡◌}
use mathlib.Core.Bool.{true}
use lib.Dec.{eqb}
use Rattle.table.specs.Find.{row_of}
use Rattle.table.specs.Place.{place_of}
use Rattle.table.specs.Read.{table_of}
use Rattle.table.proofs.places.find.Given as goal

abbrev pub invariant-loop-chain : goal.invariant-loop-chain
invariant-loop-chain l = (l.chain ≤ (table_of l.s).count) × (l.at ≡ place_of (table_of l.s) l.chain) × ((j : ℕ) → j < l.chain → eqb (row_of (table_of l.s) j).id l.id ≡ true → ⊥)

abbrev pub decreases-loop-chain : goal.decreases-loop-chain
decreases-loop-chain l = (table_of l.s).count - l.chain
