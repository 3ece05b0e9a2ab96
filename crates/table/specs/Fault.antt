-- The verdict on a record (01, 'Stored table' and 'Numbers given back'; 02, request 7): accepted, or its first fault, as the refusal and
-- the offset of the first byte of the field at fault; where bytes are missing, that is the table's length (02, request 1).
use Rattle.std.specs.Prelude.{ℕ, zero, suc, max, ◌+◌, ◌*◌, ◌-◌, List, [], ◌∷◌, Bool, true, false, not, ◌&&◌, ◌||◌, length, get_or, ltb, eqb, Ok, Err}
use Rattle.search.specs.Choice.{◌when◌else◌}
use Rattle.table.specs.Limits.{max_chains, max_deadline, max_gap, max_distances, max_distance, max_largest, max_tasks, max_all_tasks, max_cost}
use Rattle.table.specs.Bytes.{word}
use Rattle.table.specs.Record.{gap_form, largest_form, task_mark, end_mark, form_at, id_place, id_at, kind_place, kind_at, overload_place, overload_at, deadline_place, deadline_at, gap_place, gap_at, flag_at, head_length, listed_place, listed_at, tasks_place, tasks_at, list_place, distances_at, largest_place, largests_at, first_task, priority_place, priority_at, cost_place, cost_at, count_place, count_at, after_end}
use Rattle.table.specs.Find.{used}
use Rattle.table.specs.declared.Mark.{Mark}
use Rattle.table.specs.declared.Mark.TheVariants.{Chain, Task, End, Unknown}
use Rattle.table.specs.declared.Table.{Table}
use Rattle.table.specs.Refusal.{Verdict}
use Rattle.table.specs.declared.refusal.Refusal.TheVariants.{BytesMissing, BadMark, BadId, BadKind, BadDeadline, BadGap, BadTaskCount, BadTask, BadChainCount, BadListLength, BadDistance, LastIsZero, GapTooSmall, BadLargest}

infixr 6 ◌then◌
-- the first of two faults
unfoldable pub ◌then◌ : Verdict → Verdict → Verdict
◌then◌ (Ok u) v = v
◌then◌ (Err f) v = Err f

-- x lies outside low to high
abbrev pub outside : ℕ → ℕ → ℕ → Bool
outside low high x = ltb x low || ltb high x

-- what a mark, as a number, stands for: a chain of either form, a task, the end, or none of them
unfoldable pub mark_of : ℕ → Mark
mark_of m = Chain when eqb m gap_form || eqb m largest_form else Task when eqb m task_mark else End when eqb m end_mark else Unknown

abbrev pub is_chain : Mark → Bool
is_chain Chain = true
is_chain Task = false
is_chain End = false
is_chain Unknown = false

-- a mark at `at`, where a task's must stand
abbrev pub no_task : Mark → ℕ → Verdict
no_task Task at = Ok tt
no_task Chain at = Err (BadMark, at)
no_task End at = Err (BadMark, at)
no_task Unknown at = Err (BadMark, at)

-- id, kind and overload, after the chains of t
unfoldable pub identity_fault : List ℕ → ℕ → Table → Verdict
identity_fault s at t =
    Err (BadId, id_place at) when eqb (id_at s at) 0 || used t (id_at s at) else
    Err (BadKind, kind_place at) when ltb 1 (kind_at s at) else
    Err (BadKind, overload_place at) when ltb 1 (overload_at s at) else
    Ok tt

-- deadline, gap
unfoldable pub times_fault : List ℕ → ℕ → Verdict
times_fault s at =
    Err (BadDeadline, deadline_place at) when outside 1 max_deadline (deadline_at s at) else
    Err (BadGap, gap_place at) when ltb max_gap (gap_at s at) else
    Ok tt

-- list length, task count with running total, after so many tasks
unfoldable pub counts_fault : List ℕ → ℕ → ℕ → Verdict
counts_fault s at tasks =
    Err (BadListLength, listed_place s at) when outside 1 max_distances (listed_at s at) else
    Err (BadTaskCount, tasks_place s at) when outside 1 max_tasks (tasks_at s at) || ltb max_all_tasks (tasks + tasks_at s at) else
    Ok tt

-- the fixed part: the rest of it there, then each field
unfoldable pub head_fault : List ℕ → ℕ → Table → Verdict
head_fault s at t =
    Err (BytesMissing, length s) when ltb (length s) (at + head_length (form_at s at)) else
    identity_fault s at t then
    times_fault s at then
    counts_fault s at t.tasks

-- of the distances from `at` on, the first that falls below the one before it, or exceeds the limit
unfoldable pub fall_fault : ℕ → List ℕ → ℕ → Verdict
fall_fault before [] at = Ok tt
fall_fault before (d ∷ ds) at = Err (BadDistance, at) when outside before max_distance d else fall_fault d ds (at + 4)

-- the last of them is 0
unfoldable pub last_fault : List ℕ → ℕ → Verdict
last_fault ds at = Err (LastIsZero, at + 4 * (length ds - 1)) when eqb (get_or ds (length ds - 1) 0) 0 else Ok tt

-- the gap times n, n + 1, .. is below a distance
unfoldable pub gap_short : ℕ → ℕ → List ℕ → Bool
gap_short gap n [] = false
gap_short gap n (d ∷ ds) = ltb (gap * n) d || gap_short gap (n + 1) ds

-- the gap, which stands at `place`, is known and too small
unfoldable pub gap_fault : ℕ → List ℕ → ℕ → Verdict
gap_fault gap ds place = Err (GapTooSmall, place) when not (eqb gap 0) && gap_short gap 1 ds else Ok tt

-- the distances from `at` on, the whole list for each number before the next, and the gap, which stands at `place`
unfoldable pub distances_fault : ℕ → List ℕ → ℕ → ℕ → Verdict
distances_fault gap ds at place = fall_fault 0 ds at then last_fault ds at then gap_fault gap ds place

-- the list: its bytes there, then the distances and the gap
unfoldable pub list_fault : List ℕ → ℕ → Verdict
list_fault s at =
    Err (BytesMissing, length s) when ltb (length s) (largest_place s at) else
    distances_fault (gap_at s at) (distances_at s at) (list_place s at) (gap_place at)

-- of the largest distances from `at` on, the first that falls below the one before it or the smallest for its count, or exceeds the limit;
-- as many smallest stand beside them
unfoldable pub short_fault : ℕ → List ℕ → List ℕ → ℕ → Verdict
short_fault before ds [] at = Ok tt
short_fault before [] (l ∷ ls) at = Ok tt
short_fault before (d ∷ ds) (l ∷ ls) at = Err (BadLargest, at) when outside (max before d) max_largest l else short_fault l ds ls (at + 4)

-- the flag, which stands in the gap's place; then the largest distances: their bytes there, then each
unfoldable pub largest_fault : List ℕ → ℕ → Verdict
largest_fault s at =
    Err (BadLargest, gap_place at) when ltb 1 (flag_at s at) else
    Err (BytesMissing, length s) when ltb (length s) (first_task s at) else
    short_fault 0 (distances_at s at) (largests_at s at) (largest_place s at)

-- a task's mark: there, and right
unfoldable pub task_mark_fault : List ℕ → ℕ → Verdict
task_mark_fault s at = Err (BytesMissing, length s) when ltb (length s) (at + 2) else no_task (mark_of (word 2 s at)) at

-- its values
unfoldable pub values_fault : List ℕ → ℕ → Verdict
values_fault s at =
    Err (BadTask, priority_place at) when eqb (priority_at s at) 0 else
    Err (BadTask, cost_place at) when outside 1 max_cost (cost_at s at) else
    Ok tt

-- its rest: there, then its values
unfoldable pub task_rest_fault : List ℕ → ℕ → Verdict
task_rest_fault s at = Err (BytesMissing, length s) when ltb (length s) (at + 8) else values_fault s at

-- a task
unfoldable pub task_fault : List ℕ → ℕ → Verdict
task_fault s at = task_mark_fault s at then task_rest_fault s at

-- n tasks
unfoldable pub tasks_fault : List ℕ → ℕ → ℕ → Verdict
tasks_fault s zero at = Ok tt
tasks_fault s (suc n) at = task_fault s at then tasks_fault s n (at + 8)

-- a chain, its mark known: the fixed part, the list, the largest distances, each task
unfoldable pub chain_fault : List ℕ → ℕ → Table → Verdict
chain_fault s at t = head_fault s at t then list_fault s at then largest_fault s at then tasks_fault s (tasks_at s at) (first_task s at)

-- a chain, its mark known, beside the rows of t, which have this form: its form, then whether it is one too many, then itself
unfoldable pub beside_fault : List ℕ → ℕ → ℕ → Table → Verdict
beside_fault s at form t =
    Err (BadMark, at) when not (eqb (form_at s at) form) else
    Err (BadChainCount, at) when eqb t.count max_chains else
    chain_fault s at t

-- the end, its mark known: whole, then the number of chains, and nothing after it
unfoldable pub end_fault : List ℕ → ℕ → Table → Verdict
end_fault s at t =
    Err (BytesMissing, length s) when ltb (length s) (after_end at) else
    Err (BadChainCount, count_place at) when eqb t.count 0 else
    Err (BadChainCount, count_place at) when not (eqb (count_at s at) t.count) else
    Err (BadChainCount, after_end at) when not (eqb (length s) (after_end at)) else
    Ok tt
