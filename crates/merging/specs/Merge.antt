-- Merge of two edited tables, given their common ancestor (02, request 4): the result, the refusals in order, and what the calls hand back.
use Rattle.std.specs.Prelude.{ℕ, ◌+◌, ◌≡◌, Bool, length, drop, ltb, is_ok}
use mathlib.Core.List.{List, [], ◌++◌, map, flatten}
use Rattle.std.specs.Borrow.{Bor}
use Rattle.search.specs.Choice.{◌when◌else◌, by_number}
use Rattle.search.specs.Lists.{keep}
use Rattle.table.specs.Record.{end_record}
use Rattle.table.specs.Read.{unless, read_table}
use Rattle.merging.specs.Versions.{Versions, three, by_versions, start_of, ids_of}
use Rattle.merging.specs.Rule.{by_rule, taken_of, order, conflict_above}
use Rattle.std.specs.declared.result.Result.{Result}
use Rattle.std.specs.declared.result.Result.TheVariants.{Ok, Err}
use Rattle.table.specs.declared.refusal.Refusal.{Refusal}
use Rattle.table.specs.declared.refusal.Refusal.TheVariants.{BufferShort, Conflicting}
use Rattle.merging.specs.declared.Unmerged.{Unmerged}
use Rattle.merging.specs.declared.Unmerged.TheVariants.{Ancestor, First, Second, Conflict, NoRoom, Merged}

-- The merge

-- what a merge answers: the used length, or why there is none
abbrev pub Answer : Type 0
Answer = Result ℕ Unmerged

-- the refusal that each is
abbrev pub refusal_of : Unmerged → Refusal
refusal_of (Ancestor f) = f.0
refusal_of (First f) = f.0
refusal_of (Second f) = f.0
refusal_of (Conflict id) = Conflicting
refusal_of NoRoom = BufferShort
refusal_of (Merged f) = f.0

abbrev pub as_refused : Answer → Result ℕ Refusal
as_refused (Ok n) = Ok n
as_refused (Err e) = Err (refusal_of e)

-- a table's fault, as that of one of the three or of the result
abbrev pub of_ancestor : {A : Type 0} → Refusal → ℕ → Result A Unmerged
of_ancestor n place = Err (Ancestor (n, place))

abbrev pub of_first : {A : Type 0} → Refusal → ℕ → Result A Unmerged
of_first n place = Err (First (n, place))

abbrev pub of_second : {A : Type 0} → Refusal → ℕ → Result A Unmerged
of_second n place = Err (Second (n, place))

abbrev pub of_merged : {A : Type 0} → Refusal → ℕ → Result A Unmerged
of_merged n place = Err (Merged (n, place))

-- a state that is a record's bytes, not that it is missing
abbrev pub is_record : List ℕ → Bool
is_record state = ltb 0 (length state)

-- the records taken, in the order of the result
unfoldable pub taken_records : Versions → List (List ℕ)
taken_records v = keep is_record (map (taken_of v) (order v))

-- those of them whose ids the ancestor has, one after the other: they stand first
abbrev pub staying : Versions → List ℕ
staying v = flatten (keep is_record (map (taken_of v) (ids_of v.ancestor)))

-- the result: these records, one after the other, and the end record with their number
unfoldable pub result_of : Versions → List ℕ
result_of v = flatten (taken_records v) ++ end_record (length (taken_records v))

-- into a buffer with that much room: 24, then a table's numbers on the result
unfoldable pub fitted : ℕ → List ℕ → Answer
fitted room result = Err NoRoom when ltb room (length result) else unless of_merged (read_table result).verdict (Ok (length result))

-- the three tables' own numbers, 32 with the smallest id in conflict, and then those
unfoldable pub merged_of : ℕ → Versions → Answer
merged_of room v =
    unless of_ancestor (read_table v.ancestor).verdict
    (unless of_first (read_table v.first).verdict
    (unless of_second (read_table v.second).verdict
    (by_number (λ id. Err (Conflict id)) (conflict_above v 0) (fitted room (result_of v)))))

-- the whole buffer after an answer: the result first, and its rest stays; refused, every byte stays
abbrev pub buffer_after : Answer → List ℕ → List ℕ → List ℕ
buffer_after answer result buffer = result ++ drop (length result) buffer when is_ok answer else buffer

-- what a merge does
pub record Merges (v : Versions) (buffer : List ℕ) (answer : Answer) (after : List ℕ) : Type 0 where
  pub answers : answer ≡ merged_of (length buffer) v
  pub leaves : after ≡ buffer_after answer (result_of v) buffer

-- The conflicts

-- the smallest id in conflict that is greater than `above`, 0 if there is none; only the three tables refuse
unfoldable pub found_of : Versions → ℕ → Result ℕ Refusal
found_of v above = by_versions Err v (Ok (conflict_above v above))

-- The record taken for an id

-- its bytes; none where nothing is taken: the id is missing, in conflict, or a table is refused
unfoldable pub chosen_of : Versions → ℕ → List ℕ
chosen_of v id = by_versions (λ n. []) v (taken_of v id)

-- where it stands in memory (a block, and a place in it), in the first copy or the second, from where these stand: in the first where
-- both hold it
unfoldable pub chosen_place : Versions → ℕ → ℕ × ℕ → ℕ × ℕ → ℕ × ℕ
chosen_place v id first second =
    by_versions (λ n. first) v
    (by_rule v id (first.0, start_of v.first id + first.1) (second.0, start_of v.second id + second.1) first)

-- the three as they are lent
abbrev pub versions : Bor (List ℕ) → Bor (List ℕ) → Bor (List ℕ) → Versions
versions ancestor first second = three ancestor.now first.now second.now

-- r is the record taken, as a part of one of the lent copies
pub record Chosen (ancestor first second : Bor (List ℕ)) (id : ℕ) (r : Bor (List ℕ)) : Type 0 where
  pub bytes : r.now ≡ chosen_of (versions ancestor first second) id
  pub place : r.ref_ptr ≡ chosen_place (versions ancestor first second) id first.ref_ptr second.ref_ptr
