-- At the loop's head `at` is the place of `chain`, and no record before it is the old one.
use Prim.Native.Nat.{ℕ, ◌<◌}
use mathlib.Core.Path.{◌≡◌}
use mathlib.Core.Bool.{true}
use Rattle.table.specs.Place.{place_of}
use Rattle.table.specs.Read.{table_of}
use Rattle.slices.specs.Slices.{same}
use Rattle.slices.specs.Stored.{record_of}
use Rattle.saving.proofs.judge.seen.Given as goal

abbrev pub invariant-loop-chain : goal.invariant-loop-chain
invariant-loop-chain l = (l.at ≡ place_of (table_of l.s) l.chain) × ((j : ℕ) → j < l.chain → same (record_of l.s j) l.old ≡ true → ⊥)
