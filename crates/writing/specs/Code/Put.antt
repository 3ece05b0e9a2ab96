-- What the code puts into a buffer, and how it decides that it does.
use Rattle.std.specs.Prelude.{ℕ, ◌+◌, ◌≤◌, ◌≡◌, true, length, take, eqb, ltb, Ok, Err}
use mathlib.Core.List.{List, [], map, flatten}
use Rattle.search.specs.Choice.{◌when◌else◌}
use Rattle.table.specs.Limits.{max_distances, max_tasks}
use Rattle.table.specs.declared.Row.{Row}
use Rattle.table.specs.declared.refusal.Refusal.TheVariants.{BadChainCount, BufferShort}
use Rattle.writing.specs.Rows.{is_form, distance_bytes, row_bytes}
use Rattle.writing.specs.Write.{Written}
use Rattle.writing.specs.declared.judged.Tally.{Tally}

-- distance i, where there are more than i
abbrev pub distance_of : List ℕ → ℕ → ℕ → List ℕ
distance_of list n i = distance_bytes list i when ltb i n else []

-- how long the table of good rows is
abbrev pub table_length : Tally → ℕ
table_length j = j.bytes + 4

-- the answer of a write of good rows into that much room
unfoldable pub fitted : Tally → ℕ → Written
fitted j room =
    Err BadChainCount when eqb j.count 0 else
    Err BufferShort when ltb room (table_length j) else
    Ok (table_length j)

-- a row that has room from `at` on
pub record RowRoom (r : Row) (buffer : List ℕ) (at : ℕ) : Type 0 where
  pub form : is_form r.form ≡ true
  pub some : 1 ≤ r.listed
  pub listed : r.listed ≤ max_distances
  pub tasks : r.tasks ≤ max_tasks
  pub room : at + length (row_bytes r) ≤ length buffer

-- the records of the first n rows
abbrev pub row_records : List Row → ℕ → List ℕ
row_records rs n = flatten (map row_bytes (take n rs))
