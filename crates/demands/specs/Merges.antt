-- Merging two edited copies of a table, given their common ancestor (02, request 4): no edit is lost, the copies can be swapped, and an
-- unchanged copy gives the other.
use Rattle.std.specs.Prelude.{ℕ, ◌<◌, ◌≤◌, ◌≡◌, List, [], ◌++◌, ◌⊎◌, length, take, drop, Ok, Err}
use Rattle.search.specs.Lists.{sum_of}
use Rattle.table.specs.Limits.{max_chains, max_all_tasks}
use Rattle.table.specs.Record.{tasks_at}
use Rattle.table.specs.Read.{limit_of}
use Rattle.table.specs.declared.refusal.Fault.{Fault}
use Rattle.table.specs.declared.refusal.Refusal.{Refusal}
use Rattle.table.specs.declared.refusal.Refusal.TheVariants.{BadLength, BadMark, BadTaskCount, BadChainCount}
use Rattle.slices.specs.Stored.{form_in, OneForm, Mixed}
use Rattle.merging.specs.Versions.{Versions, three, swapped, state_of}
use Rattle.merging.specs.Rule.{taken_of}
use Rattle.merging.specs.Merge.{taken_records, staying, result_of, merged_of, Merges, found_of, chosen_of}
use Rattle.merging.specs.declared.Unmerged.TheVariants.{Conflict, NoRoom, Merged}
use Rattle.demands.specs.Chains.{IsTable}
use Rattle.demands.specs.Figures.{Exactly}
use Rattle.demands.specs.Others.{Unmoved}

-- three accepted tables
pub record AllTables (v : Versions) : Type 0 where
  pub ancestor : IsTable v.ancestor
  pub first : IsTable v.first
  pub second : IsTable v.second

-- an id is changed differently on both sides: no two of its three states are the same. A state is the record's bytes, none where it is
-- missing
pub record InConflict (v : Versions) (id : ℕ) : Type 0 where
  pub copies : state_of v.first id ≡ state_of v.second id → ⊥
  pub in_first : state_of v.first id ≡ state_of v.ancestor id → ⊥
  pub in_second : state_of v.second id ≡ state_of v.ancestor id → ⊥

-- the smallest id greater than some number that is
pub record Smallest (v : Versions) (above id : ℕ) : Type 0 where
  pub greater : above < id
  pub conflict : InConflict v id
  pub least : (other : ℕ) → above < other → InConflict v other → id ≤ other

-- they are merged into a buffer with so much room: n bytes
pub record MergedInto (room : ℕ) (v : Versions) (n : ℕ) : Type 0 where
  pub tables : AllTables v
  pub answered : merged_of room v ≡ Ok n

-- the merge gives these bytes
pub record Gives (room : ℕ) (v : Versions) (s : List ℕ) : Type 0 where
  pub answered : merged_of room v ≡ Ok (length s)
  pub result : result_of v ≡ s

-- the result's records are of mixed forms, record i the first of the other, and neither the result's length nor a field before that record
-- is at fault
pub record FirstMixed (v : Versions) (i : ℕ) : Type 0 where
  pub mixed : Mixed (taken_records v) i
  pub short : length (result_of v) ≤ limit_of (form_in (taken_records v) 0)
  pub few : i ≤ max_chains
  pub tasks : sum_of (λ r. tasks_at r 0) (take i (taken_records v)) ≤ max_all_tasks

pub record NoEditLost : Type 0 where
  -- the result of an accepted merge is an accepted table, as long as is answered, which fits
  pub table : {v : Versions} {room n : ℕ} → MergedInto room v n → IsTable (result_of v) × (n ≡ length (result_of v)) × (n ≤ room)
  -- the buffer then begins with the result, and the rest of it is as it was
  pub written : {v : Versions} {buffer after : List ℕ} {n : ℕ} → Merges v buffer (Ok n) after → (take n after ≡ result_of v) × (drop n after ≡ drop n buffer)
  -- per id: both copies in the same state, that one
  pub alike : {v : Versions} {room n : ℕ} → MergedInto room v n → (id : ℕ) → state_of v.first id ≡ state_of v.second id → state_of (result_of v) id ≡ state_of v.first id
  -- what one side changed and the other did not stands in the result, byte for byte; so does what one side removed or added
  pub first_changed : {v : Versions} {room n : ℕ} → MergedInto room v n → (id : ℕ) → state_of v.second id ≡ state_of v.ancestor id → state_of (result_of v) id ≡ state_of v.first id
  pub second_changed : {v : Versions} {room n : ℕ} → MergedInto room v n → (id : ℕ) → state_of v.first id ≡ state_of v.ancestor id → state_of (result_of v) id ≡ state_of v.second id
  -- there is no fourth case
  pub no_conflict : {v : Versions} {room n : ℕ} → MergedInto room v n → (id : ℕ) → InConflict v id → ⊥
  -- and the record taken for an id is the one that is handed back
  pub chosen : {v : Versions} {room n : ℕ} → MergedInto room v n → (id : ℕ) → chosen_of v id ≡ state_of (result_of v) id
  -- 32 is given exactly when some id is changed differently on both sides, with the smallest
  pub conflict : {v : Versions} → AllTables v → (room id : ℕ) → Exactly (merged_of room v ≡ Err (Conflict id)) (InConflict v id × ((other : ℕ) → InConflict v other → id ≤ other))
  -- asked for the conflicts above 0, that id is answered
  pub told : {v : Versions} → AllTables v → (room id : ℕ) → merged_of room v ≡ Err (Conflict id) → found_of v 0 ≡ Ok id
  -- asked for the conflicts above a number, the smallest of them is answered, and 0 exactly where there is none
  pub found : {v : Versions} → AllTables v → (above id : ℕ) → Exactly ((found_of v above ≡ Ok id) × (0 < id)) (Smallest v above id)
  pub none : {v : Versions} → AllTables v → (above : ℕ) → Exactly (found_of v above ≡ Ok 0) ((id : ℕ) → above < id → InConflict v id → ⊥)
  -- a result that loses every chain is refused with 11
  pub emptied : {v : Versions} → AllTables v → ((id : ℕ) → InConflict v id → ⊥) → ((id : ℕ) → taken_of v id ≡ []) → (room : ℕ) → 4 ≤ room → (place : ℕ) × (merged_of room v ≡ Err (Merged (BadChainCount, place)))
  -- of a table's numbers a result can only meet 1, 3, 9 and 11
  pub numbers : {v : Versions} → AllTables v → (room : ℕ) {n : Refusal} {place : ℕ} → merged_of room v ≡ Err (Merged (n, place)) → (n ≡ BadLength) ⊎ (n ≡ BadMark) ⊎ (n ≡ BadTaskCount) ⊎ (n ≡ BadChainCount)
  -- 3 is given only where its records are of mixed forms (02, request 7); those of an accepted result have one
  pub mixed : {v : Versions} → AllTables v → (room : ℕ) {place : ℕ} → merged_of room v ≡ Err (Merged (BadMark, place)) → (i : ℕ) × Mixed (taken_records v) i
  pub one_form : {v : Versions} {room n : ℕ} → MergedInto room v n → OneForm (taken_records v) (length (taken_records v))
  -- and a result of mixed forms is 3, unless its length or an earlier field is at fault first
  pub mixed_first : {v : Versions} → AllTables v → ((id : ℕ) → InConflict v id → ⊥) → (room : ℕ) → length (result_of v) ≤ room → {i : ℕ} → FirstMixed v i
      → (place : ℕ) × (merged_of room v ≡ Err (Merged (BadMark, place)))

pub record SwappedCopies : Type 0 where
  -- the same conflicts, and the same length
  pub conflicts : {v : Versions} → AllTables v → (above : ℕ) → found_of (swapped v) above ≡ found_of v above
  pub long : {v : Versions} → AllTables v → length (result_of (swapped v)) ≡ length (result_of v)
  -- refused one way, refused the other: 32 and 24 alike, a result perhaps with another number
  pub conflict : {v : Versions} → AllTables v → (room : ℕ) {id : ℕ} → merged_of room v ≡ Err (Conflict id) → merged_of room (swapped v) ≡ Err (Conflict id)
  pub no_room_holds : {v : Versions} → AllTables v → (room : ℕ) → merged_of room v ≡ Err NoRoom → merged_of room (swapped v) ≡ Err NoRoom
  pub refused : {v : Versions} → AllTables v → (room : ℕ) {f : Fault} → merged_of room v ≡ Err (Merged f) → (g : Fault) × (merged_of room (swapped v) ≡ Err (Merged g))
  -- else accepted alike, with the same records
  pub accepted : {v : Versions} {room n : ℕ} → MergedInto room v n → merged_of room (swapped v) ≡ Ok n
  pub states : {v : Versions} {room n : ℕ} → MergedInto room v n → (id : ℕ) → state_of (result_of (swapped v)) id ≡ state_of (result_of v) id
  -- those of the ancestor in the same order and places: both results begin with them
  pub places : (v : Versions) → (rest : List ℕ) × (other : List ℕ) × (result_of v ≡ staying v ++ rest) × (result_of (swapped v) ≡ staying v ++ other)
  -- so every id has the same latency and misses in both
  pub figures : {v : Versions} {room n : ℕ} → MergedInto room v n → (id : ℕ) → Unmoved (result_of v) (result_of (swapped v)) id

pub record UnchangedCopies : Type 0 where
  -- merging with an unchanged copy, whose records may have moved, gives the other copy's records, all of them and no other, wherever that
  -- copy has room
  pub first : {v : Versions} → AllTables v → ((id : ℕ) → state_of v.first id ≡ state_of v.ancestor id) → {room : ℕ} → length v.second ≤ room
      → (merged_of room v ≡ Ok (length v.second)) × ((id : ℕ) → state_of (result_of v) id ≡ state_of v.second id)
  pub second : {v : Versions} → AllTables v → ((id : ℕ) → state_of v.second id ≡ state_of v.ancestor id) → {room : ℕ} → length v.first ≤ room
      → (merged_of room v ≡ Ok (length v.first)) × ((id : ℕ) → state_of (result_of v) id ≡ state_of v.first id)
  -- three equal tables give the same bytes
  pub both : {s : List ℕ} → IsTable s → {room : ℕ} → length s ≤ room → Gives room (three s s s) s

-- all of it
pub record MergeOfCopies : Type 0 where
  pub kept : NoEditLost
  pub swapped_copies : SwappedCopies
  pub unchanged : UnchangedCopies
