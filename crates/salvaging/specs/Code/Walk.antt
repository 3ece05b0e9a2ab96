-- What the code knows of the rows kept so far, of the places where they stand, and of what these make.
use Rattle.std.specs.Prelude.{ℕ, ◌+◌, ◌<◌, ◌≤◌, ◌≡◌, Bool, true, false, ◌&&◌, length, get_or, take, leb}
use mathlib.Core.List.{List, [], ◌∷◌, map, flatten}
use Rattle.table.specs.Limits.{max_chains}
use Rattle.table.specs.Bytes.{word}
use Rattle.table.specs.Record.{kind_at, overload_at, length_at}
use Rattle.table.specs.Find.{row_of}
use Rattle.table.specs.Fault.{mark_of, is_chain}
use Rattle.table.specs.Code.Before.{Keeps}
use Rattle.table.specs.declared.Table.{Table}
use Rattle.table.specs.declared.Mark.{Mark}
use Rattle.table.specs.declared.Mark.TheVariants.{Chain, Task, End, Unknown}
use Rattle.table.specs.declared.before.Before.{Before}
use Rattle.salvaging.specs.Kept.{kept_places}
use Rattle.salvaging.specs.Skipped.{skipped_from}
use Rattle.salvaging.specs.Salvage.{Answer, record_at, fitted, table_with, list_with, buffer_after}
use Rattle.salvaging.specs.declared.put.Size.{Size}

abbrev pub is_task : Mark → Bool
is_task Task = true
is_task Chain = false
is_task End = false
is_task Unknown = false

-- no `C`, with which a chain's mark starts, stands from `from` on before `to`
abbrev pub NoC : List ℕ → ℕ → ℕ → Type 0
NoC s from to = (j : ℕ) → from ≤ j → j < to → get_or s j 0 ≡ 67 → ⊥

-- the length of the shorter of the two fixed parts
abbrev pub least_head : ℕ
least_head = 13

-- what the bytes at `at` have if a chain record starts there: as many as a fixed part, a kind and an overload byte of at most 1, a chain's mark
unfoldable pub starts_like : List ℕ → ℕ → Bool
starts_like s at = leb (at + least_head) (length s) && leb (kind_at s at) 1 && leb (overload_at s at) 1 && is_chain (mark_of (word 2 s at))

-- of the rows of t: what a record is judged by, and their form, if there is one
pub record Knows (before : Before) (form : ℕ) (t : Table) : Type 0 where
  pub keeps : Keeps before t
  pub form_is : (before.count ≡ 0 → ⊥) → form ≡ (row_of t 0).form

-- the first r numbers are the places of the records kept
pub record Walked (s places : List ℕ) (r : ℕ) : Type 0 where
  pub numbers : take r places ≡ kept_places s
  pub few : r ≤ length places
  pub long : length places ≡ max_chains

-- whole records stand at these places, one after the other, from `at` on
unfoldable pub InOrder : List ℕ → ℕ → List ℕ → Type 0
InOrder s at [] = at ≤ length s
InOrder s at (place ∷ places) = (at ≤ place) × InOrder s (place + length_at s place) places

-- how long the records are in all, and how many stretches are skipped beside them
abbrev pub size_of : List ℕ → List ℕ → Size
size_of s places = record { bytes = length (flatten (map (record_at s) places)); stretches = length (skipped_from max_chains s 0 places) }

-- what is answered of these places, and left in the two buffers
pub record Fits (s places table list : List ℕ) (answer : Answer) (tableAfter listAfter : List ℕ) : Type 0 where
  pub answers : answer ≡ fitted (length table) (length list) (table_with s places) (list_with s places)
  pub leaves_table : tableAfter ≡ buffer_after answer (table_with s places) table
  pub leaves_list : listAfter ≡ buffer_after answer (list_with s places) list
