-- A chain of a stored table: what the demands speak of.
use Rattle.std.specs.Prelude.{ℕ, ◌<◌, ◌≡◌, List, Ok}
use Rattle.table.specs.Bytes.{Bytes}
use Rattle.table.specs.Find.{row_of, find_of}
use Rattle.table.specs.Read.{read_table, table_of}
use Rattle.table.specs.declared.Row.{Row}
use Rattle.slices.specs.Stored.{record_of}
use Rattle.windows.specs.Demand.{others}

-- a byte string that is read as an accepted table
pub record IsTable (s : List ℕ) : Type 0 where
  pub bytes : Bytes s
  pub accepted : (read_table s).verdict ≡ Ok tt

-- a chain of it has the id
pub record Has (s : List ℕ) (id : ℕ) : Type 0 where
  pub table : IsTable s
  pub there : find_of (table_of s) id < (table_of s).count

-- the number of that chain in the table, its row, its record's bytes, and the other chains' rows
abbrev pub chain_number : List ℕ → ℕ → ℕ
chain_number s id = find_of (table_of s) id

abbrev pub chain_of : List ℕ → ℕ → Row
chain_of s id = row_of (table_of s) (chain_number s id)

abbrev pub record_bytes : List ℕ → ℕ → List ℕ
record_bytes s id = record_of s (chain_number s id)

abbrev pub others_of : List ℕ → ℕ → List Row
others_of s id = others (table_of s) (chain_number s id)
