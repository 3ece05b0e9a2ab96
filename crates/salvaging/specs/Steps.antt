-- The walk step by step, in the words of document 02 (request 8).
use Rattle.std.specs.Prelude.{ℕ, ◌+◌, ◌<◌, ◌≤◌, ◌≡◌, List, [], ◌∷◌, true, false, ltb}
use Rattle.search.specs.Lists.{keep}
use Rattle.table.specs.Record.{length_at, row_at}
use Rattle.table.specs.Read.{empty, plus}
use Rattle.table.specs.declared.Table.{Table}
use Rattle.salvaging.specs.Kept.{acceptable, kept_places}

-- from `at` on, the first record acceptable beside the rows of t starts at `place`
pub record Next (s : List ℕ) (at : ℕ) (t : Table) (place : ℕ) : Type 0 where
  pub on : at ≤ place
  pub none : (i : ℕ) → at ≤ i → i < place → acceptable s i t ≡ false
  pub starts : acceptable s place t ≡ true

-- from `at` on, beside the rows of t, the records at these places are kept: the next acceptable one, then those from its end on, beside its
-- row too, until none is acceptable
unfoldable pub Walks : List ℕ → ℕ → Table → List ℕ → Type 0
Walks s at t [] = (i : ℕ) → at ≤ i → acceptable s i t ≡ false
Walks s at t (place ∷ places) = Next s at t place × Walks s (place + length_at s place) (plus t (row_at s place)) places

-- the rows of t, and after them those of the records at these places
unfoldable pub adding : List ℕ → Table → List ℕ → Table
adding s t [] = t
adding s t (place ∷ places) = adding s (plus t (row_at s place)) places

-- the rows of the records kept before a place
abbrev pub kept_before : List ℕ → ℕ → Table
kept_before s i = adding s empty (keep (λ place. ltb place i) (kept_places s))
