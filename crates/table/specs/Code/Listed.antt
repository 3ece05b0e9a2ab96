-- A list of distances read from where it starts: in either form of record its length stands two bytes before it.
use Rattle.std.specs.Prelude.{ℕ, ◌+◌, ◌*◌, ◌-◌, ◌≤◌, List, length, get_or}
use Rattle.table.specs.Bytes.{word}
use Rattle.table.specs.Record.{spaced}
use Rattle.table.specs.Code.Good.{GoodDistances}

abbrev pub listed_from : List ℕ → ℕ → ℕ
listed_from s list = get_or s (list - 2) 0

abbrev pub distances_from : List ℕ → ℕ → List ℕ
distances_from s list = spaced (word 4 s) 4 (listed_from s list) list

-- all of it is there, and it is a good one
pub record Lists (s : List ℕ) (list : ℕ) : Type 0 where
  pub after : 2 ≤ list
  pub there : list + 4 * listed_from s list ≤ length s
  pub good : GoodDistances (distances_from s list)
