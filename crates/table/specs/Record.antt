-- The records (01, 'Stored table'; 02, request 7): the fields by their places, and the row that a chain record makes.
use Rattle.std.specs.Prelude.{ℕ, zero, suc, ◌+◌, ◌*◌, ◌-◌, List, [], ◌∷◌, ◌++◌, ◌&&◌, length, get_or, take, replicate, eqb}
use Rattle.search.specs.Choice.{◌when◌else◌}
use Rattle.table.specs.Limits.{max_distances, max_tasks}
use Rattle.table.specs.Bytes.{word, bytes_of}
use Rattle.table.specs.declared.Row.{Row}

-- The marks, the two bytes as a number, the first the smaller. A chain has one of two forms, each known by its mark: `CH` with a largest gap,
-- `CG` with a flag and a list of largest distances. Then `TK`, `EN`

abbrev pub gap_form : ℕ
gap_form = 18499

abbrev pub largest_form : ℕ
largest_form = 18243

abbrev pub task_mark : ℕ
task_mark = 19284

abbrev pub end_mark : ℕ
end_mark = 20037

-- The fixed part of the chain record at `at`, the mark first: where each field stands, and what it holds; a field that its form lacks is 0

abbrev pub form_at : List ℕ → ℕ → ℕ
form_at s at = word 2 s at

abbrev pub id_place : ℕ → ℕ
id_place at = at + 2

abbrev pub id_at : List ℕ → ℕ → ℕ
id_at s at = word 2 s (id_place at)

abbrev pub kind_place : ℕ → ℕ
kind_place at = at + 4

abbrev pub kind_at : List ℕ → ℕ → ℕ
kind_at s at = get_or s (kind_place at) 0

abbrev pub overload_place : ℕ → ℕ
overload_place at = at + 5

abbrev pub overload_at : List ℕ → ℕ → ℕ
overload_at s at = get_or s (overload_place at) 0

abbrev pub deadline_place : ℕ → ℕ
deadline_place at = at + 6

abbrev pub deadline_at : List ℕ → ℕ → ℕ
deadline_at s at = word 4 s (deadline_place at)

abbrev pub gap_place : ℕ → ℕ
gap_place at = at + 10

unfoldable pub gap_at : List ℕ → ℕ → ℕ
gap_at s at = 0 when eqb (form_at s at) largest_form else word 4 s (gap_place at)

-- in the gap's place `CG` has its flag: 0 where the largest distances are unknown, 1 where they are known
unfoldable pub flag_at : List ℕ → ℕ → ℕ
flag_at s at = get_or s (gap_place at) 0 when eqb (form_at s at) largest_form else 0

-- the bytes of the gap or the flag, and of the whole fixed part
unfoldable pub gap_width : ℕ → ℕ
gap_width form = 1 when eqb form largest_form else 4

abbrev pub head_length : ℕ → ℕ
head_length form = 12 + gap_width form

abbrev pub listed_place : List ℕ → ℕ → ℕ
listed_place s at = at + (10 + gap_width (form_at s at))

abbrev pub listed_at : List ℕ → ℕ → ℕ
listed_at s at = get_or s (listed_place s at) 0

abbrev pub tasks_place : List ℕ → ℕ → ℕ
tasks_place s at = at + (11 + gap_width (form_at s at))

abbrev pub tasks_at : List ℕ → ℕ → ℕ
tasks_at s at = get_or s (tasks_place s at) 0

-- After it the distances, 4 bytes each, then the largest distances, then the tasks, 8 bytes each

abbrev pub list_place : List ℕ → ℕ → ℕ
list_place s at = at + head_length (form_at s at)

-- how many largest distances a record has: `CG` with flag 1 as many as smallest, any other none
unfoldable pub known : ℕ → ℕ → ℕ → ℕ
known form flag listed = listed when eqb form largest_form && eqb flag 1 else 0

-- how long a record is
abbrev pub record_length : ℕ → ℕ → ℕ → ℕ → ℕ
record_length form flag listed tasks = head_length form + 4 * listed + 4 * known form flag listed + 8 * tasks

-- by the record's own count bytes: its largest distances, where they and the tasks start, its length
abbrev pub known_at : List ℕ → ℕ → ℕ
known_at s at = known (form_at s at) (flag_at s at) (listed_at s at)

abbrev pub largest_place : List ℕ → ℕ → ℕ
largest_place s at = list_place s at + 4 * listed_at s at

abbrev pub first_task : List ℕ → ℕ → ℕ
first_task s at = largest_place s at + 4 * known_at s at

abbrev pub length_at : List ℕ → ℕ → ℕ
length_at s at = record_length (form_at s at) (flag_at s at) (listed_at s at) (tasks_at s at)

-- A task record at `at`, the mark first

abbrev pub priority_place : ℕ → ℕ
priority_place at = at + 2

abbrev pub priority_at : List ℕ → ℕ → ℕ
priority_at s at = word 2 s (priority_place at)

abbrev pub cost_place : ℕ → ℕ
cost_place at = at + 4

abbrev pub cost_at : List ℕ → ℕ → ℕ
cost_at s at = word 4 s (cost_place at)

-- its bytes: mark, priority, cost
abbrev pub task_record : ℕ → ℕ → List ℕ
task_record priority cost = bytes_of 2 task_mark ++ bytes_of 2 priority ++ bytes_of 4 cost

-- The end record at `at`, the mark first: how many chains there are

abbrev pub count_place : ℕ → ℕ
count_place at = at + 2

abbrev pub count_at : List ℕ → ℕ → ℕ
count_at s at = word 2 s (count_place at)

-- what follows it
abbrev pub after_end : ℕ → ℕ
after_end at = at + 4

-- its bytes: mark, number of chains
abbrev pub end_record : ℕ → List ℕ
end_record n = bytes_of 2 end_mark ++ bytes_of 2 n

-- n numbers from `at` on, one every `step` bytes
unfoldable pub spaced : (ℕ → ℕ) → ℕ → ℕ → ℕ → List ℕ
spaced f step zero at = []
spaced f step (suc n) at = f at ∷ spaced f step n (at + step)

abbrev pub distances_at : List ℕ → ℕ → List ℕ
distances_at s at = spaced (word 4 s) 4 (listed_at s at) (list_place s at)

abbrev pub largests_at : List ℕ → ℕ → List ℕ
largests_at s at = spaced (word 4 s) 4 (known_at s at) (largest_place s at)

abbrev pub priorities_at : List ℕ → ℕ → List ℕ
priorities_at s at = spaced (priority_at s) 8 (tasks_at s at) (first_task s at)

abbrev pub costs_at : List ℕ → ℕ → List ℕ
costs_at s at = spaced (cost_at s) 8 (tasks_at s at) (first_task s at)

-- places past a count are 0: filled up to m places
abbrev pub pad : ℕ → List ℕ → List ℕ
pad m l = l ++ replicate (m - length l) 0

-- what the chain record at `at` says
unfoldable pub row_at : List ℕ → ℕ → Row
row_at s at =
    record {
      form = form_at s at;
      id = id_at s at;
      kind = kind_at s at;
      overload = overload_at s at;
      flag = flag_at s at;
      deadline = deadline_at s at;
      gap = gap_at s at;
      listed = listed_at s at;
      tasks = tasks_at s at;
      list = pad max_distances (distances_at s at);
      largest = pad max_distances (largests_at s at);
      priority = pad max_tasks (priorities_at s at);
      cost = pad max_tasks (costs_at s at);
    }

-- a row of 0s: what stands past the rows of a table
abbrev pub blank : Row
blank =
    record {
      form = 0;
      id = 0;
      kind = 0;
      overload = 0;
      flag = 0;
      deadline = 0;
      gap = 0;
      listed = 0;
      tasks = 0;
      list = replicate max_distances 0;
      largest = replicate max_distances 0;
      priority = replicate max_tasks 0;
      cost = replicate max_tasks 0;
    }

-- a chain's listed distances: δ(2), δ(3), ..; and its largest ones, none where they are unknown
abbrev pub distances : Row → List ℕ
distances r = take r.listed r.list

abbrev pub known_of : Row → ℕ
known_of r = known r.form r.flag r.listed

abbrev pub largests : Row → List ℕ
largests r = take (known_of r) r.largest
