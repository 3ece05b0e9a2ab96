-- What stands in the rows while they are filled.
use Rattle.std.specs.Prelude.{ℕ, List, ◌++◌, take, drop}
use Rattle.table.specs.Find.{rows}
use Rattle.table.specs.Read.{table_of}
use Rattle.table.specs.declared.Row.{Row}

-- the first k rows are filled
abbrev pub filled_to : List ℕ → List Row → ℕ → List Row
filled_to s before k = take k (rows (table_of s)) ++ drop k before
