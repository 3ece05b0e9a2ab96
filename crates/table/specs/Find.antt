-- The rows of a table, and a chain by its id.
use Rattle.std.specs.Prelude.{ℕ, List, Bool, get_or, take, eqb, ltb, Some, None}
use Rattle.search.specs.Choice.{◌when◌else◌}
use Rattle.std.specs.declared.option.Option.{Option}
use Rattle.search.specs.Find.{first}
use Rattle.table.specs.Record.{blank}
use Rattle.table.specs.declared.Row.{Row}
use Rattle.table.specs.declared.Table.{Table}

-- the row of a chain, by its number from 0, and the rows in order
abbrev pub row_of : Table → ℕ → Row
row_of t chain = get_or t.row chain blank

abbrev pub rows : Table → List Row
rows t = take t.count t.row

-- the number of the chain that bears the id, the count of chains if none does
unfoldable pub find_of : Table → ℕ → ℕ
find_of t id = first (λ chain. eqb (row_of t chain).id id) 0 t.count

-- the chain that bears the id, if one does
abbrev pub chain_with : Table → ℕ → Option ℕ
chain_with t id = None when eqb (find_of t id) t.count else Some (find_of t id)

-- an id used earlier: some chain bears it
abbrev pub used : Table → ℕ → Bool
used t id = ltb (find_of t id) t.count
