-- Reading a table into rows (02, request 2): what the call answers, and what it leaves in the rows.
use Rattle.std.specs.Prelude.{ℕ, ◌≡◌, List, ◌++◌, length, drop, ltb, is_ok}
use Rattle.search.specs.Choice.{◌when◌else◌}
use Rattle.table.specs.Find.{rows}
use Rattle.table.specs.Read.{by_verdict, read_table, table_of}
use Rattle.table.specs.declared.Row.{Row}
use Rattle.std.specs.declared.result.Result.{Result}
use Rattle.std.specs.declared.result.Result.TheVariants.{Ok, Err}
use Rattle.table.specs.declared.refusal.Refusal.{Refusal}
use Rattle.table.specs.declared.refusal.Refusal.TheVariants.{BufferShort}

-- what reading into rows answers: how many chains there are, or the refusal
abbrev pub Filled : Type 0
Filled = Result ℕ Refusal

-- the table's number, and then 24 where it has more chains than there is room for
unfoldable pub filled_of : ℕ → List ℕ → Filled
filled_of room s =
    by_verdict Err (read_table s).verdict
    (Err BufferShort when ltb room (table_of s).count else Ok (table_of s).count)

-- all rows after an answer: the table's first, and the others stay; refused, every row stays
abbrev pub rows_after : Filled → List ℕ → List Row → List Row
rows_after answer s before = rows (table_of s) ++ drop (table_of s).count before when is_ok answer else before

-- what reading into rows does
pub record Fills (s : List ℕ) (before : List Row) (answer : Filled) (after : List Row) : Type 0 where
  pub answers : answer ≡ filled_of (length before) s
  pub leaves : after ≡ rows_after answer s before
