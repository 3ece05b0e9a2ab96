-- Where the records of a table stand in its bytes: one after the other, from the first byte on.
use Rattle.std.specs.Prelude.{ℕ, ◌+◌, ◌*◌, take}
use Rattle.search.specs.Lists.{sum_of}
use Rattle.table.specs.Record.{head_length, record_length, known_of}
use Rattle.table.specs.declared.Row.{Row}
use Rattle.table.specs.declared.Table.{Table}

-- how many bytes the record of a row takes
abbrev pub length_of : Row → ℕ
length_of r = record_length r.form r.flag r.listed r.tasks

-- and after how many of them its tasks start
abbrev pub tasks_start : Row → ℕ
tasks_start r = head_length r.form + 4 * r.listed + 4 * known_of r

-- where the record of a chain, by its number from 0, starts: after those before it
unfoldable pub place_of : Table → ℕ → ℕ
place_of t chain = sum_of length_of (take chain t.row)
