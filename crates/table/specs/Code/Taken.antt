-- What the bytes of an accepted table are proved to meet: the functions that read chains from them ask for it.
use Rattle.std.specs.Prelude.{ℕ, ◌+◌, ◌*◌, ◌<◌, ◌≤◌, ◌≡◌, List, length}
use Rattle.table.specs.Bytes.{word}
use Rattle.table.specs.Record.{first_task, length_at, row_at}
use Rattle.table.specs.Fault.{mark_of}
use Rattle.table.specs.Find.{row_of}
use Rattle.table.specs.Read.{table_of}
use Rattle.table.specs.Place.{length_of, place_of}
use Rattle.table.specs.Code.Good.{GoodRow, GoodTable}
use Rattle.table.specs.declared.Table.{Table}
use Rattle.table.specs.declared.Mark.TheVariants.{Chain, Task, End}

-- the bytes hold the table: each record is there and makes its row, and the end record's 4 bytes are the last and count them
pub record Holds (s : List ℕ) (t : Table) : Type 0 where
  pub marks : (chain : ℕ) → chain < t.count → mark_of (word 2 s (place_of t chain)) ≡ Chain
  pub makes : (chain : ℕ) → chain < t.count → row_at s (place_of t chain) ≡ row_of t chain
  pub task_marks : (chain : ℕ) → chain < t.count → (i : ℕ) → i < (row_of t chain).tasks → mark_of (word 2 s (first_task s (place_of t chain) + 8 * i)) ≡ Task
  pub inside : (chain : ℕ) → chain < t.count → place_of t chain + length_of (row_of t chain) ≤ length s
  pub end_mark : mark_of (word 2 s (place_of t t.count)) ≡ End
  pub ends : place_of t t.count + 4 ≡ length s
  pub counts : word 2 s (place_of t t.count + 2) ≡ t.count

-- the bytes of an accepted table: a good table, which they hold
pub record Taken (s : List ℕ) : Type 0 where
  pub good : GoodTable (table_of s)
  pub holds : Holds s (table_of s)

-- a chain record stands at `at`: all its bytes are there, and it makes a good row
pub record Stands (s : List ℕ) (at : ℕ) : Type 0 where
  pub there : at + length_at s at ≤ length s
  pub good : GoodRow (row_at s at)
