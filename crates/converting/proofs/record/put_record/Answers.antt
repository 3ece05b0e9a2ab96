-- The four parts one after the other.
use Prim.Native.Nat.{ℕ, ◌+◌, ◌*◌, ◌-◌, ◌≤◌}
use native.Mathlib.Omega.{arith}
use mathlib.Core.Path.{◌≡◌, ap, ap₂, sym, subst, ◌∙◌}
use mathlib.Core.List.{List, ◌++◌}
use lib.ListN.{length, take, drop, length-drop}
use lib.Seq.{length-take-le}
use Rattle.table.specs.Bytes.{Bytes}
use Rattle.table.specs.Record.{gap_width, listed_at, tasks_at, list_place, first_task, row_at, known_of}
use Rattle.table.specs.declared.Row.{Row}
use Rattle.table.proofs.Stands.{listed-from}
use Rattle.slices.specs.Code.Wrote.{Wrote}
use Rattle.slices.proofs.Writes.{wrote_on}
use Rattle.writing.specs.Rows.{list_bytes, row_bytes}
use Rattle.writing.proofs.Pieces.{list_length}
use Rattle.converting.specs.Forms.{form_of, converted}
use Rattle.converting.specs.Code.Copied.{start_bytes}
use Rattle.converting.proofs.Copied.{middle, tasks, converted-whole, start-length, converted-length}
use Rattle.converting.proofs.record.put_record.Goals as goal
use Rattle.converting.proofs.record.put_record.Goals.{After-put_start-counts, After-record_length, Start}

-- what is asked of the room, by the record's parts
abbrev s : (c : Start) → List ℕ
s c = c.args.s.now

abbrev at : (c : Start) → ℕ
at c = c.args.at

abbrev row : (c : Start) → Row
row c = converted c.args.to (row_at (s c) (at c))

room : (c : Start) → c.args.next + (12 + gap_width (form_of c.args.to) + 4 * listed_at (s c) (at c) + 4 * known_of (row c) + 8 * tasks_at (s c) (at c)) ≤ length c.args.out.now
unfolding row_at
room c = omega (arith, c.requires.1, converted-length c.args.to (row_at (s c) (at c)))

abbrev list : (c : After-put_start-counts) → ℕ
list c = c.list_place-list.result

abbrev n : (c : After-put_start-counts) → ℕ
n c = c.listed_from.result

place : (c : After-put_start-counts) → list c ≡ list_place c.args.s.now c.args.at
place c = c.list_place-list.ensures

listed : (c : After-put_start-counts) → n c ≡ listed_at c.args.s.now c.args.at
listed c = c.listed_from.ensures.0 ∙ listed-from c.args.s.now c.args.at (place c)

copied : (c : After-put_start-counts) → take (list c + 4 * n c - (list c - 2)) (drop (list c - 2) c.args.s.now) ≡ middle c.args.s.now c.args.at
copied c = let e : list c + 4 * n c - (list c - 2) ≡ 2 + 4 * listed_at c.args.s.now c.args.at = omega (arith, place c, listed c) in
    ap₂ (λ m l. take m (drop (l - 2) c.args.s.now)) e (place c)

copied-length : (c : After-put_start-counts) → length (middle c.args.s.now c.args.at) ≡ 2 + 4 * listed_at c.args.s.now c.args.at
copied-length c = length-take-le (2 + 4 * listed_at c.args.s.now c.args.at) (drop (list_place c.args.s.now c.args.at - 2) c.args.s.now) (omega (arith, length-drop (list_place c.args.s.now c.args.at - 2) c.args.s.now, c.requires.0.stands.there))

bytes : (c : After-put_start-counts) → Bytes c.args.s.now
bytes c i = omega (arith, c.type_inv.s i)

starts : (c : After-put_start-counts) → c.put_start-counts.result ≡ c.args.next + (10 + gap_width (form_of c.args.to))
starts c = omega (arith, c.put_start-counts.ensures.ends, start-length c.args.s.now (bytes c) c.args.at c.requires.0 c.args.to)

pub put_start-counts-requires : goal.put_start-counts-requires
put_start-counts-requires c = (c.requires.0.stands, omega (arith, room (goal.at.put_start-counts-requires c).Start))

pub slice_bounds-put_part-end : goal.slice_bounds-put_part-end
slice_bounds-put_part-end c = omega (arith, place (goal.at.slice_bounds-put_part-end c).After-put_start-counts, listed (goal.at.slice_bounds-put_part-end c).After-put_start-counts, c.requires.0.stands.there)

pub put_part-largest-requires : goal.put_part-largest-requires
put_part-largest-requires c = omega (arith, starts (goal.at.put_part-largest-requires c).After-put_start-counts, ap length (copied (goal.at.put_part-largest-requires c).After-put_start-counts), copied-length (goal.at.put_part-largest-requires c).After-put_start-counts, room (goal.at.put_part-largest-requires c).Start, c.put_start-counts.ensures.long)

pub put_largest-tasks-requires : goal.put_largest-tasks-requires
put_largest-tasks-requires c = let m = c.put_part-largest.ensures in
    (c.requires.0.stands, omega (arith, starts (goal.at.put_largest-tasks-requires c).After-put_start-counts, ap length (copied (goal.at.put_largest-tasks-requires c).After-put_start-counts), copied-length (goal.at.put_largest-tasks-requires c).After-put_start-counts, room (goal.at.put_largest-tasks-requires c).Start, c.put_start-counts.ensures.long, m.ends, m.long))

tasks-copied : (c : After-record_length) → take (c.args.at + c.record_length.result - c.first_task-first.result) (drop c.first_task-first.result c.args.s.now) ≡ tasks c.args.s.now c.args.at
tasks-copied c = let e : c.args.at + c.record_length.result - c.first_task-first.result ≡ 8 * tasks_at c.args.s.now c.args.at = omega (arith, c.record_length.ensures, c.first_task-first.ensures) in
    ap₂ (λ m q. take m (drop q c.args.s.now)) e c.first_task-first.ensures

tasks-length : (c : After-record_length) → length (tasks c.args.s.now c.args.at) ≡ 8 * tasks_at c.args.s.now c.args.at
tasks-length c = length-take-le (8 * tasks_at c.args.s.now c.args.at) (drop (first_task c.args.s.now c.args.at) c.args.s.now) (omega (arith, length-drop (first_task c.args.s.now c.args.at) c.args.s.now, c.requires.0.stands.there))

pub put_part-requires : goal.put_part-requires
put_part-requires c = let m = c.put_part-largest.ensures in
    let l = c.put_largest-tasks.ensures in
    omega (arith, starts (goal.at.put_part-requires c).After-put_start-counts, ap length (copied (goal.at.put_part-requires c).After-put_start-counts), copied-length (goal.at.put_part-requires c).After-put_start-counts, room (goal.at.put_part-requires c).Start, c.put_start-counts.ensures.long, m.ends, m.long, l.ends, l.long, list_length (row (goal.at.put_part-requires c).Start).largest (known_of (row (goal.at.put_part-requires c).Start)), ap length (tasks-copied (goal.at.put_part-requires c).After-record_length), tasks-length (goal.at.put_part-requires c).After-record_length)

pub returns : goal.returns
returns c = let a = c.args in
    let put = c.put_part in
    let m = c.put_part-largest.ensures in
    let l = c.put_largest-tasks.ensures in
    let e : start_bytes a.to (s (goal.at.returns c).Start) a.at ++ take (list (goal.at.returns c).After-put_start-counts + 4 * n (goal.at.returns c).After-put_start-counts - (list (goal.at.returns c).After-put_start-counts - 2)) (drop (list (goal.at.returns c).After-put_start-counts - 2) (s (goal.at.returns c).Start))
    ++ list_bytes (row (goal.at.returns c).Start).largest (known_of (row (goal.at.returns c).Start))
    ++ take (at (goal.at.returns c).Start + c.record_length.result - c.first_task-first.result) (drop c.first_task-first.result (s (goal.at.returns c).Start)) ≡ row_bytes (row (goal.at.returns c).Start) =
    rw (copied (goal.at.returns c).After-put_start-counts, tasks-copied (goal.at.returns c).After-record_length) (sym (converted-whole (s (goal.at.returns c).Start) (bytes (goal.at.returns c).After-put_start-counts) a.at c.requires.0 a.to)) in
    subst (λ text. Wrote a.out.now a.next text put.new.out put.result) e (wrote_on (wrote_on (wrote_on c.put_start-counts.ensures m) l) put.ensures)
