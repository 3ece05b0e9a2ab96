-- Converting a table (02, request 7): what the call answers, and what it leaves in the buffer.
use Rattle.std.specs.Prelude.{ℕ, ◌≡◌, List, map, not, ◌||◌, length, eqb}
use Rattle.search.specs.Choice.{◌when◌else◌}
use Rattle.search.specs.Lists.{every}
use Rattle.table.specs.Record.{form_at}
use Rattle.table.specs.Find.{rows}
use Rattle.table.specs.Read.{by_verdict, read_table, table_of}
use Rattle.table.specs.declared.Row.{Row}
use Rattle.writing.specs.Write.{Written, written_of, buffer_after}
use Rattle.std.specs.declared.result.Result.TheVariants.{Err}
use Rattle.table.specs.declared.refusal.Refusal.TheVariants.{NoSuchForm}
use Rattle.converting.specs.Forms.{form_of, fits_form, converted}
use Rattle.converting.specs.declared.To.{To}

-- the rows of the table, each in the form asked
abbrev pub rows_in : To → List ℕ → List Row
rows_in to s = map (converted to) (rows (table_of s))

-- the table's own number; 34 where it has that form already, or some chain cannot be said in it; else these rows are written, where there
-- is room
unfoldable pub converted_of : To → ℕ → List ℕ → Written
converted_of to room s =
    by_verdict Err (read_table s).verdict
    (Err NoSuchForm when eqb (form_at s 0) (form_of to) || not (every (fits_form to) (rows (table_of s))) else
    written_of room (rows_in to s))

-- what a conversion does
pub record Converts (to : To) (s buffer : List ℕ) (answer : Written) (after : List ℕ) : Type 0 where
  pub answers : answer ≡ converted_of to (length buffer) s
  pub leaves : after ≡ buffer_after answer (rows_in to s) buffer
