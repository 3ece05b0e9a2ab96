-- Which stretches of a damaged table are skipped (02, request 8).
use Rattle.std.specs.Prelude.{ℕ, zero, suc, ◌+◌, ◌-◌, List, [], ◌∷◌, ◌++◌, length, ltb}
use Rattle.search.specs.Choice.{◌when◌else◌}
use Rattle.table.specs.Limits.{max_chains}
use Rattle.table.specs.Record.{length_at}
use Rattle.salvaging.specs.Kept.{kept_places}

-- a stretch of the bytes: where it starts, and how long it is
pub record Stretch : Type 0 where
  pub offset : ℕ
  pub size : ℕ

-- what lies between two places, if anything does
unfoldable pub between : ℕ → ℕ → List Stretch
between at to = record { offset = at; size = to - at } ∷ [] when ltb at to else []

-- the longest stretches skipped from `at` on, beside the records kept at these places, while `left` more could have been: what lies before
-- each of them, and what is left at the end. After a 16th record nothing is skipped
unfoldable pub skipped_from : ℕ → List ℕ → ℕ → List ℕ → List Stretch
skipped_from zero s at places = []
skipped_from (suc left) s at [] = between at (length s)
skipped_from (suc left) s at (place ∷ places) = between at place ++ skipped_from left s (place + length_at s place) places

-- of all bytes
abbrev pub skipped : List ℕ → List Stretch
skipped s = skipped_from max_chains s 0 (kept_places s)
