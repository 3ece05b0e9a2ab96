-- Where the record of a chain stands in a stored table (02, request 2): an editor saves by it, and knows no bytes.
use Rattle.std.specs.Prelude.{ℕ, List}
use Rattle.search.specs.Choice.{◌when◌else◌}
use Rattle.table.specs.Find.{row_of, find_of, used}
use Rattle.table.specs.Place.{length_of, place_of}
use Rattle.table.specs.Read.{by_verdict, read_table, table_of}
use Rattle.table.specs.declared.Table.{Table}
use Rattle.std.specs.declared.result.Result.{Result}
use Rattle.std.specs.declared.result.Result.TheVariants.{Ok, Err}
use Rattle.table.specs.declared.Part.{Part}
use Rattle.table.specs.declared.refusal.Refusal.{Refusal}
use Rattle.table.specs.declared.refusal.Refusal.TheVariants.{NoChain}

-- the record of the chain that bears the id: its offset from the table's first byte, and its length; 12 if none does
unfoldable pub record_in : Table → ℕ → Result Part Refusal
record_in t id = Ok (record { offset = place_of t (find_of t id); length = length_of (row_of t (find_of t id)) }) when used t id else Err NoChain

-- over a stored table, whose own refusals come first
unfoldable pub located_of : List ℕ → ℕ → Result Part Refusal
located_of s id = by_verdict Err (read_table s).verdict (record_in (table_of s) id)
