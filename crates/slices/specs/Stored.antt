-- The records of a stored table, as parts of its bytes.
use Rattle.std.specs.Prelude.{ℕ, ◌<◌, ◌≡◌, List, [], length, get_or, take, drop}
use Rattle.table.specs.Record.{form_at}
use Rattle.table.specs.Find.{row_of}
use Rattle.table.specs.Read.{table_of}
use Rattle.table.specs.Place.{length_of, place_of}

-- the whole stored record of a chain, by its number from 0
unfoldable pub record_of : List ℕ → ℕ → List ℕ
record_of s chain = take (length_of (row_of (table_of s) chain)) (drop (place_of (table_of s) chain) s)

-- the form of record i of some, from 0
abbrev pub form_in : List (List ℕ) → ℕ → ℕ
form_in rs i = form_at (get_or rs i []) 0

-- the first i of them have the first one's form
abbrev pub OneForm : List (List ℕ) → ℕ → Type 0
OneForm rs i = (j : ℕ) → j < i → form_in rs j ≡ form_in rs 0

-- mixed forms (02, request 7): record i is the first that has not the first one's
pub record Mixed (rs : List (List ℕ)) (i : ℕ) : Type 0 where
  pub one : i < length rs
  pub other : form_in rs i ≡ form_in rs 0 → ⊥
  pub before : OneForm rs i
