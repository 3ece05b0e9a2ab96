-- The state of an id in an accepted table. Assumes nothing.
use Prim.Native.Nat.{ℕ, ◌+◌, ◌<◌, ◌≤◌}
use native.Mathlib.Omega.{arith}
use mathlib.Core.Path.{◌≡◌, ◌∙◌}
use mathlib.Core.List.{List, []}
use mathlib.Core.Bool.{true}
use lib.Dec.{eqb}
use borrow.Author.Tests.{lt-ltb, le-ltb}
use Rattle.search.proofs.Choice.{when_yes, when_no}
use Rattle.search.proofs.Find.{first-none}
use Rattle.table.specs.Find.{row_of, find_of}
use Rattle.table.specs.Place.{place_of}
use Rattle.table.specs.Read.{table_of}
use Rattle.slices.specs.Stored.{record_of}
use Rattle.merging.specs.Versions.{state_of, start_of}

module _ (s : List ℕ) (id : ℕ) where
  -- by the chain that is found
  module _ (h : find_of (table_of s) id < (table_of s).count) where
    pub state_used : state_of s id ≡ record_of s (find_of (table_of s) id)
    unfolding state_of
    state_used = when_yes _ _ (lt-ltb _ _ h)

    pub start-used : start_of s id ≡ place_of (table_of s) (find_of (table_of s) id)
    unfolding start_of
    start-used = when_yes _ _ (lt-ltb _ _ h)

  module _ (h : (table_of s).count ≤ find_of (table_of s) id) where
    pub state_unused : state_of s id ≡ []
    unfolding state_of
    state_unused = when_no _ _ (le-ltb _ _ h)

    pub start_unused : start_of s id ≡ 0
    unfolding start_of
    start_unused = when_no _ _ (le-ltb _ _ h)

  -- none does
  module _ (none : (j : ℕ) → j < (table_of s).count → eqb (row_of (table_of s) j).id id ≡ true → ⊥) where
    pub find_missing : find_of (table_of s) id ≡ (table_of s).count
    unfolding find_of
    find_missing =
        let e : 0 + (table_of s).count ≡ (table_of s).count = omega arith in
        first-none (λ j. eqb (row_of (table_of s) j).id id) 0 (table_of s).count (λ j a l. none j (omega arith)) ∙ e

    pub state_missing : state_of s id ≡ []
    state_missing = state_unused (omega (arith, find_missing))
