-- What the code copies of a record that it converts.
use Rattle.std.specs.Prelude.{ℕ, ◌+◌, ◌*◌, ◌<◌, ◌≡◌, List, ◌++◌, take, drop}
use Rattle.table.specs.Bytes.{word, bytes_of}
use Rattle.table.specs.Record.{tasks_at, first_task, row_at}
use Rattle.table.specs.Fault.{mark_of}
use Rattle.table.specs.Code.Taken.{Stands}
use Rattle.table.specs.declared.Mark.TheVariants.{Chain, Task}
use Rattle.writing.specs.Rows.{gap_bytes}
use Rattle.converting.specs.Forms.{form_of, converted}
use Rattle.converting.specs.declared.To.{To}

-- a record that stands, its marks right, as those of every accepted table
pub record Marked (s : List ℕ) (at : ℕ) : Type 0 where
  pub stands : Stands s at
  pub mark : mark_of (word 2 s at) ≡ Chain
  pub tasks : (i : ℕ) → i < tasks_at s at → mark_of (word 2 s (first_task s at + 8 * i)) ≡ Task

-- the first bytes of its record in the form asked: the mark, what stands from the id up to the gap, and the gap or the flag in its place
abbrev pub start_bytes : To → List ℕ → ℕ → List ℕ
start_bytes to s at =
    bytes_of 2 (form_of to) ++ take 8 (drop (at + 2) s) ++ gap_bytes (form_of to) (converted to (row_at s at)).flag (converted to (row_at s at)).gap
