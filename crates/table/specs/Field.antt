-- Where a refusal points (02, requests 1 and 7): for each number the field whose first byte stands at the place, and what is wrong with it.
-- Every refusal of `readTable` is proved to be one of these (proofs/Fields.antt).
use Rattle.std.specs.Prelude.{ℕ, zero, suc, max, ◌+◌, ◌*◌, ◌-◌, ◌<◌, ◌≤◌, ◌≡◌, List, true, ◌⊎◌, length, get_or}
use Rattle.table.specs.Limits.{max_chains, max_deadline, max_gap, max_distances, max_distance, max_largest, max_tasks, max_all_tasks, max_cost}
use Rattle.table.specs.Bytes.{word}
use Rattle.table.specs.Record.{form_at, id_place, id_at, kind_place, kind_at, overload_place, overload_at, deadline_place, deadline_at, gap_place, gap_at, flag_at, head_length, listed_place, listed_at, tasks_place, tasks_at, list_place, distances_at, largest_place, largests_at, first_task, length_at, priority_place, priority_at, cost_place, cost_at, count_place, count_at, after_end}
use Rattle.table.specs.Fault.{outside, mark_of}
use Rattle.table.specs.Read.{limit_of}
use Rattle.table.specs.declared.Mark.TheVariants.{Chain, Task, End}

-- where the record after the first n chain records starts, and how many tasks these have
unfoldable pub record_start : List ℕ → ℕ → ℕ
record_start s zero = 0
record_start s (suc n) = record_start s n + length_at s (record_start s n)

unfoldable pub tasks_before : List ℕ → ℕ → ℕ
tasks_before s zero = 0
tasks_before s (suc n) = tasks_before s n + tasks_at s (record_start s n)

-- a chain's mark, and that of the first record
pub record ChainMark (s : List ℕ) (at : ℕ) : Type 0 where
  pub chain : mark_of (word 2 s at) ≡ Chain
  pub form : form_at s at ≡ form_at s 0

-- the first n records bear it
abbrev pub Chains : List ℕ → ℕ → Type 0
Chains s n = (m : ℕ) → m < n → ChainMark s (record_start s m)

-- What stands after the first n chain records

-- two bytes that are neither a chain's mark nor the end's
pub record NoRecord (s : List ℕ) (n : ℕ) : Type 0 where
  pub few : n ≤ max_chains
  pub before : Chains s n
  pub there : record_start s n + 2 ≤ length s
  pub unknown : (mark_of (word 2 s (record_start s n)) ≡ Chain → ⊥) × (mark_of (word 2 s (record_start s n)) ≡ End → ⊥)

-- a chain's mark of the other form
pub record OtherForm (s : List ℕ) (n : ℕ) : Type 0 where
  pub few : n ≤ max_chains
  pub before : Chains s n
  pub there : record_start s n + 2 ≤ length s
  pub chain : mark_of (word 2 s (record_start s n)) ≡ Chain
  pub other : form_at s (record_start s n) ≡ form_at s 0 → ⊥

-- the end's mark
pub record EndMark (s : List ℕ) (n : ℕ) : Type 0 where
  pub few : n ≤ max_chains
  pub before : Chains s n
  pub mark : mark_of (word 2 s (record_start s n)) ≡ End

-- the end record, whole
pub record EndRecord (s : List ℕ) (n : ℕ) : Type 0 where
  pub end : EndMark s n
  pub there : after_end (record_start s n) ≤ length s

-- a chain record with all of its fixed part
pub record ChainRecord (s : List ℕ) (n : ℕ) : Type 0 where
  pub few : n < max_chains
  pub chains : Chains s (suc n)
  pub there : record_start s n + head_length (form_at s (record_start s n)) ≤ length s

-- and with all of its list, which is not empty
pub record ListThere (s : List ℕ) (n : ℕ) : Type 0 where
  pub chain : ChainRecord s n
  pub some : 1 ≤ listed_at s (record_start s n)
  pub there : largest_place s (record_start s n) ≤ length s

-- and with all of its largest distances
pub record LargestThere (s : List ℕ) (n : ℕ) : Type 0 where
  pub list : ListThere s n
  pub there : first_task s (record_start s n) ≤ length s

-- where its task i, from 0, stands
abbrev pub task_place : List ℕ → ℕ → ℕ → ℕ
task_place s n i = first_task s (record_start s n) + 8 * i

-- and so many bytes of that task are there
pub record TaskThere (s : List ℕ) (n i bytes : ℕ) : Type 0 where
  pub largest : LargestThere s n
  pub one : i < tasks_at s (record_start s n)
  pub there : task_place s n i + bytes ≤ length s

-- the distance before the one with number j, from 0
unfoldable pub before_of : List ℕ → ℕ → ℕ
before_of ds zero = 0
before_of ds (suc j) = get_or ds j 0

-- distance j falls below the one before it, or exceeds the limit
abbrev pub Falls : List ℕ → ℕ → Type 0
Falls ds j = outside (before_of ds j) max_distance (get_or ds j 0) ≡ true

-- it is the first that does; none does
pub record FirstFall (ds : List ℕ) (j : ℕ) : Type 0 where
  pub one : j < length ds
  pub falls : Falls ds j
  pub first : (i : ℕ) → i < j → Falls ds i → ⊥

pub record Rises (ds : List ℕ) : Type 0 where
  pub none : (i : ℕ) → i < length ds → Falls ds i → ⊥

-- largest distance j falls below the one before it or the smallest for its count, or exceeds the limit; it is the first that does
abbrev pub Short : List ℕ → List ℕ → ℕ → Type 0
Short ds ls j = outside (max (before_of ls j) (get_or ds j 0)) max_largest (get_or ls j 0) ≡ true

pub record FirstShort (ds ls : List ℕ) (j : ℕ) : Type 0 where
  pub one : j < length ls
  pub short : Short ds ls j
  pub first : (i : ℕ) → i < j → Short ds ls i → ⊥

-- a refusal of that number at that place, where n chain records stand before what is looked at
pub data Blames (s : List ℕ) : ℕ → ℕ → Type 0 where
  -- 1: the length, at 0
  in_length : (length s ≡ 0) ⊎ (limit_of (word 2 s 0) < length s) → Blames s 1 0
  -- 2: missing bytes, at the table's length: before the end record, in a chain record, in the end record
  in_mark : (n : ℕ) → n ≤ max_chains → Chains s n → length s < record_start s n + 2 → Blames s 2 (length s)
  in_chain : (n : ℕ) → n < max_chains → Chains s (suc n) → length s < record_start s (suc n) → Blames s 2 (length s)
  in_end : (n : ℕ) → EndMark s n → length s < after_end (record_start s n) → Blames s 2 (length s)
  -- 3: a record's mark, also a chain's that is not the first record's, or a task's
  at_mark : (n : ℕ) → NoRecord s n → Blames s 3 (record_start s n)
  at_form : (n : ℕ) → OtherForm s n → Blames s 3 (record_start s n)
  at_task_mark : (n i : ℕ) → TaskThere s n i 2 → (mark_of (word 2 s (task_place s n i)) ≡ Task → ⊥) → Blames s 3 (task_place s n i)
  -- 4: an id that is 0 or used earlier
  at_id : (n : ℕ) → ChainRecord s n → (id_at s (record_start s n) ≡ 0) ⊎ ((m : ℕ) × (m < n) × (id_at s (record_start s m) ≡ id_at s (record_start s n)))
      → Blames s 4 (id_place (record_start s n))
  -- 5: a kind above 1, or else an overload byte
  at_kind : (n : ℕ) → ChainRecord s n → 1 < kind_at s (record_start s n) → Blames s 5 (kind_place (record_start s n))
  at_overload : (n : ℕ) → ChainRecord s n → kind_at s (record_start s n) ≤ 1 → 1 < overload_at s (record_start s n) → Blames s 5 (overload_place (record_start s n))
  -- 6, 7: a deadline, a gap
  at_deadline : (n : ℕ) → ChainRecord s n → outside 1 max_deadline (deadline_at s (record_start s n)) ≡ true → Blames s 6 (deadline_place (record_start s n))
  at_gap : (n : ℕ) → ChainRecord s n → max_gap < gap_at s (record_start s n) → Blames s 7 (gap_place (record_start s n))
  -- 28: a list length
  at_list_length : (n : ℕ) → ChainRecord s n → outside 1 max_distances (listed_at s (record_start s n)) ≡ true → Blames s 28 (listed_place s (record_start s n))
  -- 9: a task count, or too many tasks so far
  at_task_count : (n : ℕ) → ChainRecord s n → (outside 1 max_tasks (tasks_at s (record_start s n)) ≡ true) ⊎ (max_all_tasks < tasks_before s (suc n))
      → Blames s 9 (tasks_place s (record_start s n))
  -- 29: the first distance that falls or is too large
  at_distance : (n j : ℕ) → ListThere s n → FirstFall (distances_at s (record_start s n)) j → Blames s 29 (list_place s (record_start s n) + 4 * j)
  -- 30: the last distance, which is 0, where none falls
  at_last : (n : ℕ) → ListThere s n → Rises (distances_at s (record_start s n)) → get_or (distances_at s (record_start s n)) (listed_at s (record_start s n) - 1) 0 ≡ 0
      → Blames s 30 (list_place s (record_start s n) + 4 * (listed_at s (record_start s n) - 1))
  -- 31: the gap, which is known, and j + 1 times it is below distance j, where none falls and the last is not 0
  at_small_gap : (n j : ℕ) → ListThere s n → Rises (distances_at s (record_start s n)) → 0 < get_or (distances_at s (record_start s n)) (listed_at s (record_start s n) - 1) 0
      → 0 < gap_at s (record_start s n) → j < listed_at s (record_start s n) → gap_at s (record_start s n) * (j + 1) < get_or (distances_at s (record_start s n)) j 0
      → Blames s 31 (gap_place (record_start s n))
  -- 33: a flag above 1, or else the first largest distance that falls, is too large or lies below the smallest
  at_flag : (n : ℕ) → ListThere s n → 1 < flag_at s (record_start s n) → Blames s 33 (gap_place (record_start s n))
  at_largest : (n j : ℕ) → LargestThere s n → flag_at s (record_start s n) ≤ 1 → FirstShort (distances_at s (record_start s n)) (largests_at s (record_start s n)) j
      → Blames s 33 (largest_place s (record_start s n) + 4 * j)
  -- 10: a priority of 0, or else a cost
  at_priority : (n i : ℕ) → TaskThere s n i 8 → priority_at s (task_place s n i) ≡ 0 → Blames s 10 (priority_place (task_place s n i))
  at_cost : (n i : ℕ) → TaskThere s n i 8 → 1 ≤ priority_at s (task_place s n i) → outside 1 max_cost (cost_at s (task_place s n i)) ≡ true → Blames s 10 (cost_place (task_place s n i))
  -- 11: a 17th chain, at its mark; no chain or a wrong count, at the count; bytes after the end, at the first of them
  at_seventeenth : Chains s (suc max_chains) → record_start s max_chains + 2 ≤ length s → Blames s 11 (record_start s max_chains)
  at_count : (n : ℕ) → EndRecord s n → (n ≡ 0) ⊎ (count_at s (record_start s n) ≡ n → ⊥) → Blames s 11 (count_place (record_start s n))
  at_trailing : (n : ℕ) → EndRecord s n → 1 ≤ n → count_at s (record_start s n) ≡ n → after_end (record_start s n) < length s → Blames s 11 (after_end (record_start s n))

-- the numbers that a table is refused with: 1 to 7, 9 to 11, 28 to 31, 33
abbrev pub TableRefusal : ℕ → Type 0
TableRefusal n = ((1 ≤ n) × (n ≤ 7)) ⊎ ((9 ≤ n) × (n ≤ 11)) ⊎ ((28 ≤ n) × (n ≤ 31)) ⊎ (n ≡ 33)

-- so such a number, at a place within the table, or at 0 for 1 and at the table's length for 2
pub record Placed (s : List ℕ) (n place : ℕ) : Type 0 where
  pub number : TableRefusal n
  pub within : (place < length s) ⊎ ((n ≡ 1) × (place ≡ 0)) ⊎ ((n ≡ 2) × (place ≡ length s))
