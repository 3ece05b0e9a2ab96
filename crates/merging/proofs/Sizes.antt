-- How long the states are that are taken, and what is left of them from some id on. Assumes nothing.
use Prim.Native.Nat.{ℕ, ◌+◌, ◌<◌, ◌≤◌}
use native.Mathlib.Omega.{arith}
use mathlib.Core.Path.{◌≡◌, ap}
use mathlib.Core.List.{List, ◌∷◌, map, flatten}
use mathlib.Core.Bool.{Bool, true, false}
use mathlib.Core.Logic.{⊎_elim}
use lib.Dec.{ltb}
use lib.ListN.{length, drop, get_or, length-append, length-take}
use Rattle.std.specs.Int.{from_bool}
use Rattle.search.specs.Choice.{◌when◌else◌}
use Rattle.search.specs.Lists.{keep}
use Rattle.search.proofs.Choice.{when_cases, lt_or_le}
use Rattle.search.proofs.Rest.{rest}
use Rattle.table.specs.Find.{row_of, find_of}
use Rattle.table.specs.Read.{table_of}
use Rattle.table.specs.Code.Taken.{Taken}
use Rattle.table.proofs.Standing.{longest_record, record_most}
use Rattle.slices.specs.Slices.{same}
use Rattle.slices.specs.Stored.{record_of}
use Rattle.merging.specs.Versions.{Versions, three, state_of}
use Rattle.merging.specs.Rule.{by_states, taken_of}
use Rattle.merging.specs.Merge.{is_record}
use Rattle.merging.specs.Code.Parts.{AllTaken}
use Rattle.merging.specs.Code.Size.{states_of}
use Rattle.merging.proofs.Lookup.{state_used, state_unused}

-- a state is no longer than a record can be
state_short : {s : List ℕ} → Taken s → (id : ℕ) → length (state_of s id) ≤ longest_record
unfolding record_of
state_short {s} t id = ⊎_elim
    (λ h. let r = row_of (table_of s) (find_of (table_of s) id) in
    rw (state_used s id h, length-take) (omega (arith, record_most (t.good.row (find_of (table_of s) id) h) r.form r.flag)))
    (λ h. rw (state_unused s id h) (omega arith))
    (lt_or_le (find_of (table_of s) id) (table_of s).count)

-- what holds of each copy's state and of none holds of the one that is taken
pub by_cases : {A : Type 0} (P : A → Type 0) (was first second : List ℕ) {firsts seconds neither : A} → P firsts → P seconds → P neither
    → P (by_states was first second firsts seconds neither)
unfolding by_states
by_cases P was first second f s n =
    when_cases P (same first second) (λ e. f) (λ e. when_cases P (same first was) (λ g. s) (λ g. when_cases P (same second was) (λ h. f) (λ h. n)))

pub taken-short : {ancestor first second : List ℕ} → AllTaken ancestor first second → (id : ℕ) → length (taken_of (three ancestor first second) id) ≤ longest_record
taken-short {ancestor} {first} {second} t id =
    by_cases (λ (state : List ℕ). length state ≤ longest_record) (state_of ancestor id) (state_of first id) (state_of second id)
    (state_short t.of_first id) (state_short t.of_second id) (omega arith)

-- one state more: its bytes, and whether it is a record
module _ (state : List ℕ) (states : List (List ℕ)) where
  pub more_bytes : length (flatten (state ∷ states)) ≡ length state + length (flatten states)
  unfolding flatten
  more_bytes = length-append state (flatten states)

  pub more-records : length (keep is_record (state ∷ states)) ≡ from_bool (ltb 0 (length state)) + length (keep is_record states)
  unfolding keep ◌when◌else◌
  more-records = by (ltb 0 (length state))
    where
      by : (t : Bool) → length (state ∷ keep is_record states when t else keep is_record states) ≡ from_bool t + length (keep is_record states)
      by true = omega arith
      by false = omega arith

pub states-rest : (v : Versions) (ids : List ℕ) (i : ℕ) → i < length ids → states_of v (drop i ids) ≡ taken_of v (get_or ids i 0) ∷ states_of v (drop (i + 1) ids)
states-rest v ids i h = ap (map (taken_of v)) (rest ids i 0 h)
