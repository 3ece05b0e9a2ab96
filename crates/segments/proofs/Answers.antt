-- What the segment query hands back: the task records of that active segment, where they stand. Assumes nothing.
use Prim.Native.Nat.{ℕ, zero, suc, ◌+◌, ◌*◌, ◌-◌, ◌<◌, ◌≤◌}
use native.Mathlib.Omega.{arith}
use mathlib.Core.Path.{◌≡◌, refl, ap, ap₂, sym, subst, ◌∙◌}
use mathlib.Core.List.{List, [], ◌++◌, map, flatten}
use mathlib.Core.Bool.{not, ◌||◌}
use borrow.Author.Tests.{ltb-true, not-false}
use lib.Dec.{eqb}
use lib.ListN.{length, get_or, take, drop}
use lib.Seq.{drop-drop, take-add}
use Rattle.search.proofs.Choice.{when_cases}
use Rattle.table.specs.Bytes.{word, Bytes}
use Rattle.table.specs.Record.{priority_at, cost_at, first_task, task_record, row_at}
use Rattle.table.specs.Fault.{mark_of}
use Rattle.table.specs.Find.{row_of, find_of, used}
use Rattle.table.specs.Place.{tasks_start, place_of}
use Rattle.table.specs.Code.Taken.{Holds}
use Rattle.table.specs.Read.{by_verdict, read_table, table_of}
use Rattle.table.specs.declared.Row.{Row}
use Rattle.table.specs.declared.Table.{Table}
use Rattle.table.specs.declared.Mark.TheVariants as mark
use Rattle.table.specs.declared.Part.{Part}
use Rattle.table.specs.declared.refusal.Refusal.{Refusal}
use Rattle.table.specs.declared.refusal.Refusal.TheVariants.{NoChain, SameChain, NoSuchSegment}
use Rattle.table.specs.Refusal.{Verdict}
use Rattle.std.specs.declared.result.Result.TheVariants.{Ok, Err}
use Rattle.table.proofs.Marks.{task-there}
use Rattle.table.proofs.Stands.{priority-at, cost-at, tasks-there}
use Rattle.table.proofs.Firsts.{none_or}
use Rattle.table.proofs.Faultless.{inside}
use Rattle.table.proofs.Accepted.{taken}
use Rattle.segments.specs.Tasks.{Task, tasks_from}
use Rattle.segments.specs.Actives.{Active, start_of, nothing}
use Rattle.segments.specs.Query.{Answer, actives_in, nth_of, answer_of, segment_of, part_of, bytes_of_task, tasks_in, TaskRecords}
use Rattle.segments.proofs.Steps.{task}
use Rattle.segments.proofs.Standing.{active_contiguous, actives-length, active-start, active-length}

-- records are answered of a chain of the table, for a number that an active segment has: they are that one's
abbrev asked : Table → ℕ → ℕ → ℕ → Active
asked t id against number = get_or (actives_in t (find_of t id) (find_of t against)) (number - 1) nothing

record Answered (t : Table) (id against number : ℕ) (part : Part) : Type 0 where
  there : find_of t id < t.count
  low : 1 ≤ number
  high : number ≤ length (actives_in t (find_of t id) (find_of t against))
  offset_is : part.offset ≡ place_of t (find_of t id) + tasks_start (row_of t (find_of t id)) + 8 * (asked t id against number).start
  length_is : part.length ≡ 8 * (asked t id against number).len

-- no refusal is a part
refused : {A : Type 0} (n : Refusal) (part : Part) → ◌≡◌ {A = Answer} (Err n) (Ok part) → A
refused n part e = absurd (let z : ◌≡◌ {A = ℕ} 0 1 = cc in omega arith)

answered : (t : Table) (id against number : ℕ) (part : Part) → answer_of t id against number ≡ Ok part → Answered t id against number part
unfolding answer_of nth_of
answered t id against number part =
    when_cases (λ r. r ≡ Ok part → Answered t id against number part) (not (used t id) || not (used t against))
    (λ u. refused NoChain part)
    (λ u. when_cases (λ r. r ≡ Ok part → Answered t id against number part) (eqb id against)
    (λ v. refused SameChain part)
    (λ v. when_cases (λ r. r ≡ Ok part → Answered t id against number part) _
    (λ w. refused NoSuchSegment part)
    (λ w e.
    let range = inside 1 _ number w in
    record {
      there = ltb-true _ _ (not-false _ (none_or (not (used t id)) (not (used t against)) u).0);
      low = range.0;
      high = range.1;
      offset_is = cc;
      length_is = cc;
    })))

-- 8 bytes are a task's record
task-bytes : (s : List ℕ) (at : ℕ) (t : Task) → Bytes s → at + 8 ≤ length s → mark_of (word 2 s at) ≡ mark.Task → priority_at s at ≡ t.priority → cost_at s at ≡ t.cost
    → take 8 (drop at s) ≡ bytes_of_task t
task-bytes s at t bytes h m p c = task-there s at bytes h m ∙ ap₂ task_record p c

-- so are those of n tasks, from the one with i before it on, where the first task's record starts at `first`
tasks-bytes : (s ps cs : List ℕ) (first most : ℕ) → ((i : ℕ) → i < most → take 8 (drop (first + 8 * i) s) ≡ bytes_of_task (task ps cs i))
    → (n i : ℕ) → i + n ≤ most → take (8 * n) (drop (first + 8 * i) s) ≡ flatten (map bytes_of_task (tasks_from ps cs n i))
unfolding flatten tasks_from
tasks-bytes s ps cs first most each zero i h = refl
tasks-bytes s ps cs first most each (suc n) i h =
    let more : 8 * suc n ≡ 8 + 8 * n = omega arith in
    let next : first + 8 * i + 8 ≡ first + 8 * (i + 1) = omega arith in
    ap (λ m. take m (drop (first + 8 * i) s)) more ∙ take-add 8 (8 * n) (drop (first + 8 * i) s)
    ∙ ap₂ ◌++◌ (each i (omega arith)) (ap (take (8 * n)) (drop-drop 8 (first + 8 * i) s ∙ ap (λ m. drop m s) next) ∙ tasks-bytes s ps cs first most each n (i + 1) (omega arith))

-- an answer comes from an accepted table, which its bytes hold
module _ (s : List ℕ) (bytes : Bytes s) (id against number : ℕ) (part : Part) (e : segment_of s id against number ≡ Ok part) where
  accepted : (read_table s).verdict ≡ Ok tt
  unfolding segment_of
  accepted = by (read_table s).verdict e
    where
      by : (v : Verdict) → by_verdict Err v (answer_of (table_of s) id against number) ≡ Ok part → v ≡ Ok tt
      by (Ok u) q = refl
      by (Err f) q = refused f.0 part q

  answer-of : Answered (table_of s) id against number part
  unfolding segment_of
  answer-of =
      answered (table_of s) id against number part
      (sym (ap (λ v. by_verdict Err v (answer_of (table_of s) id against number)) accepted) ∙ e)

  holds : Holds s (table_of s)
  holds = (taken s bytes accepted).holds

  abbrev chain : ℕ
  chain = find_of (table_of s) id

  abbrev row : Row
  row = row_of (table_of s) chain

  abbrev other : Row
  other = row_of (table_of s) (find_of (table_of s) against)

  abbrev first : ℕ
  first = place_of (table_of s) chain + tasks_start row

  abbrev tasks : List Task
  tasks = get_or (tasks_in (table_of s) id against) (number - 1) []

  -- the records are those of its tasks, and lie inside their chain's record
  offset-there : part.offset ≡ first + 8 * start_of tasks
  offset-there = answer-of.offset_is ∙ ap (λ n. first + 8 * n) (active-start row other (number - 1))

  length-there : part.length ≡ 8 * length tasks
  length-there = answer-of.length_is ∙ ap (λ n. 8 * n) (active-length row other (number - 1))

  follow-there : start_of tasks + length tasks ≤ row.tasks
  follow-there = (active_contiguous row other (number - 1)).inside

  pub answer-inside : part.offset + part.length ≤ length s
  answer-inside = omega (arith, offset-there, length-there, follow-there, holds.inside chain answer-of.there)

  -- each task of the chain stands where its record does
  each-task : (i : ℕ) → i < row.tasks → take 8 (drop (first + 8 * i) s) ≡ bytes_of_task (task row.priority row.cost i)
  unfolding row_at
  each-task i h =
      let at = place_of (table_of s) chain in
      let makes = holds.makes chain answer-of.there in
      let same : first_task s at ≡ first = tasks-there s at ∙ ap (λ (r : Row). at + tasks_start r) makes in
      let values = subst (λ (r : Row). i < r.tasks → (priority_at s (first_task s at + 8 * i) ≡ get_or r.priority i 0) × (cost_at s (first_task s at + 8 * i) ≡ get_or r.cost i 0))
      makes (λ l. (sym (priority-at s at i l), sym (cost-at s at i l))) h in
      rw (← same)
      (task-bytes s (first_task s at + 8 * i) (task row.priority row.cost i) bytes (omega (arith, same, holds.inside chain answer-of.there, h))
      (holds.task_marks chain answer-of.there i h) values.0 values.1)

  -- what is handed back is the task records of that active segment
  pub answer-records : TaskRecords s id against number (part_of s (Ok part))
  answer-records = record {
    low = answer-of.low;
    high = omega (arith, answer-of.high, actives-length row other);
    bytes =
        ap₂ (λ m n. take m (drop n s)) length-there offset-there
        ∙ tasks-bytes s row.priority row.cost first row.tasks each-task (length tasks) (start_of tasks) follow-there
        ∙ ap (λ l. flatten (map bytes_of_task l)) (sym (active_contiguous row other (number - 1)).are);
  }
