-- Three versions of a table: the common ancestor and two edited copies of it (02, request 4), and what each has of an id.
use Rattle.std.specs.Prelude.{ℕ, List, [], map}
use Rattle.search.specs.Choice.{◌when◌else◌}
use Rattle.table.specs.Find.{rows, find_of, used}
use Rattle.table.specs.Place.{place_of}
use Rattle.table.specs.Read.{by_verdict, read_table, table_of}
use Rattle.table.specs.declared.refusal.Refusal.{Refusal}
use Rattle.table.specs.declared.Row.{Row}
use Rattle.slices.specs.Stored.{record_of}

pub record Versions : Type 0 where
  pub ancestor : List ℕ
  pub first : List ℕ
  pub second : List ℕ

abbrev pub three : List ℕ → List ℕ → List ℕ → Versions
three ancestor first second = record { ancestor = ancestor; first = first; second = second }

-- the copies the other way round
abbrev pub swapped : Versions → Versions
swapped v = record { ancestor = v.ancestor; first = v.second; second = v.first }

-- a refused table refuses with its number, the ancestor's before the first copy's and that before the second's, each query in its own
-- way; three accepted ones are asked
abbrev pub by_versions : {A : Type 0} → (Refusal → A) → Versions → A → A
by_versions refuse v answer =
    by_verdict refuse (read_table v.ancestor).verdict
    (by_verdict refuse (read_table v.first).verdict
    (by_verdict refuse (read_table v.second).verdict answer))

-- the state of an id in a table: its record's bytes, none where it is missing; and where that record starts
unfoldable pub state_of : List ℕ → ℕ → List ℕ
state_of s id = record_of s (find_of (table_of s) id) when used (table_of s) id else []

unfoldable pub start_of : List ℕ → ℕ → ℕ
start_of s id = place_of (table_of s) (find_of (table_of s) id) when used (table_of s) id else 0

-- the ids of a table, in its order
abbrev pub ids_of : List ℕ → List ℕ
ids_of s = map (λ (r : Row). r.id) (rows (table_of s))
