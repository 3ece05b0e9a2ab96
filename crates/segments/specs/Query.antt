-- The segment query over a stored table (01, 'Numbers given back' and 'Segments against chain b').
use Rattle.std.specs.Prelude.{ℕ, ◌+◌, ◌*◌, ◌-◌, ◌≤◌, ◌≡◌, not, ◌||◌, length, get_or, take, drop, eqb}
use mathlib.Core.List.{List, [], map, flatten}
use Rattle.std.specs.Borrow.{Bor}
use Rattle.search.specs.Choice.{◌when◌else◌}
use Rattle.table.specs.Find.{row_of, find_of, used}
use Rattle.table.specs.Record.{task_record}
use Rattle.table.specs.Fault.{outside}
use Rattle.table.specs.Place.{place_of, tasks_start}
use Rattle.table.specs.Read.{by_verdict, read_table, table_of}
use Rattle.table.specs.declared.Table.{Table}
use Rattle.segments.specs.Tasks.{Task}
use Rattle.segments.specs.Segments.{active_tasks}
use Rattle.segments.specs.Actives.{Active, nothing, actives_of}
use Rattle.std.specs.declared.result.Result.{Result}
use Rattle.std.specs.declared.result.Result.TheVariants.{Ok, Err}
use Rattle.table.specs.declared.Part.{Part}
use Rattle.table.specs.declared.refusal.Refusal.{Refusal}
use Rattle.table.specs.declared.refusal.Refusal.TheVariants.{NoChain, SameChain, NoSuchSegment}

-- what the query answers: the part of the table's bytes that the task records are, or the refusal
abbrev pub Answer : Type 0
Answer = Result Part Refusal

-- the active segments of one chain of a table against another
abbrev pub actives_in : Table → ℕ → ℕ → List Active
actives_in t chain other = actives_of (row_of t chain) (row_of t other)

-- the task records of an active segment of a chain, 8 bytes each: their offset from the table's first byte, and their length
abbrev pub records_of : Table → ℕ → Active → Answer
records_of t chain s = Ok (record { offset = place_of t chain + tasks_start (row_of t chain) + 8 * s.start; length = 8 * s.len })

-- the active segment of that number, counted from 1; 26 if there is none
unfoldable pub nth_of : Table → ℕ → ℕ → ℕ → Answer
nth_of t chain other number =
    Err NoSuchSegment when outside 1 (length (actives_in t chain other)) number else
    records_of t chain (get_or (actives_in t chain other) (number - 1) nothing)

-- of the chain with one id against the chain with the other: 12 for either id, then 25, then 26
unfoldable pub answer_of : Table → ℕ → ℕ → ℕ → Answer
answer_of t id against number =
    Err NoChain when not (used t id) || not (used t against) else
    Err SameChain when eqb id against else
    nth_of t (find_of t id) (find_of t against) number

-- over a stored table, whose own refusals come first
unfoldable pub segment_of : List ℕ → ℕ → ℕ → ℕ → Answer
segment_of s id against number = by_verdict Err (read_table s).verdict (answer_of (table_of s) id against number)

-- handed back as that part of the caller's own table bytes; a refusal hands back an empty part
abbrev pub part_of : List ℕ → Answer → List ℕ
part_of s (Ok part) = take part.length (drop part.offset s)
part_of s (Err n) = []

abbrev pub offset_of : Answer → ℕ
offset_of (Ok part) = part.offset
offset_of (Err n) = 0

-- r is that part of the lent table: these bytes, where they stand in its memory (a block, and a place in it)
pub record HandedBack (table r : Bor (List ℕ)) (answer : Answer) : Type 0 where
  pub bytes : r.now ≡ part_of table.now answer
  pub place : r.ref_ptr ≡ (table.ref_ptr.0, offset_of answer + table.ref_ptr.1)

-- what that part is: the records of the active segment's tasks, one after the other

-- a task's record
abbrev pub bytes_of_task : Task → List ℕ
bytes_of_task t = task_record t.priority t.cost

-- the active segments of the chain with one id against the chain with the other, in task order, each as its tasks
abbrev pub tasks_in : Table → ℕ → ℕ → List (List Task)
tasks_in t id against = active_tasks (row_of t (find_of t id)) (row_of t (find_of t against))

-- a part of a table's bytes is the task records of the active segment of that number, counted from 1
pub record TaskRecords (s : List ℕ) (id against number : ℕ) (part : List ℕ) : Type 0 where
  pub low : 1 ≤ number
  pub high : number ≤ length (tasks_in (table_of s) id against)
  pub bytes : part ≡ flatten (map bytes_of_task (get_or (tasks_in (table_of s) id against) (number - 1) []))
