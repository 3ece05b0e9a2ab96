-- What the code knows of the result before it is there, and of the bytes that it has put together.
use Rattle.std.specs.Prelude.{ℕ, ◌≡◌, ◌&&◌, ltb, length, take}
use mathlib.Core.List.{List, ◌++◌, map, flatten}
use Rattle.search.specs.Choice.{by_number}
use Rattle.search.specs.Lists.{keep}
use Rattle.merging.specs.Versions.{Versions}
use Rattle.merging.specs.Rule.{taken_of, conflict_of, least}
use Rattle.table.specs.Record.{end_record}
use Rattle.merging.specs.Merge.{Answer, is_record, fitted, buffer_after}
use Rattle.merging.specs.declared.result.Size.{Size}
use Rattle.std.specs.declared.result.Result.TheVariants.{Err}
use Rattle.merging.specs.declared.Unmerged.TheVariants.{Conflict}

-- the states taken of ids, those that are missing too
abbrev pub states_of : Versions → List ℕ → List (List ℕ)
states_of v ids = map (taken_of v) ids

-- the smallest of these ids in conflict, 0 if there is none
abbrev pub least_of : Versions → List ℕ → ℕ
least_of v ids = least (λ id. ltb 0 id && conflict_of v id) ids

-- and of the states, how many bytes they have in all, and how many of them are records
abbrev pub size_of : Versions → List ℕ → Size
size_of v ids = record { conflict = least_of v ids; bytes = length (flatten (states_of v ids)); records = length (keep is_record (states_of v ids)) }

-- the result of these ids
abbrev pub result_from : List (List ℕ) → List ℕ
result_from states = flatten states ++ end_record (length (keep is_record states))

-- the first r bytes of an array are those, and it is as long as it was
pub record PutThere (bytes before after : List ℕ) (r : ℕ) : Type 0 where
  pub first : take r after ≡ bytes
  pub all : r ≡ length bytes
  pub long : length after ≡ length before

-- what is answered of three accepted tables with these ids, and left in the buffer
pub record Fits (v : Versions) (ids before : List ℕ) (r : Answer) (after : List ℕ) : Type 0 where
  pub answers : r ≡ by_number (λ id. Err (Conflict id)) (least_of v ids) (fitted (length before) (result_from (states_of v ids)))
  pub leaves : after ≡ buffer_after r (result_from (states_of v ids)) before
