-- Bytes put one after the other. Assumes nothing.
use Prim.Native.Nat.{ℕ, min, ◌+◌, ◌*◌, ◌<◌, ◌≤◌}
use native.Mathlib.Omega.{arith}
use native.Mathlib.Numerals.{add-one}
use mathlib.Core.Path.{◌≡◌, refl, ap, sym, subst, ◌∙◌}
use mathlib.Core.List.{List, [], ◌++◌, append_assoc, append-nil}
use mathlib.Core.Bool.{true}
use mathlib.Core.Logic.{⊎_elim}
use borrow.Author.Tests.{lt-ltb, le-ltb}
use Rattle.search.proofs.Choice.{when_yes, when_no, lt_or_le}
use Rattle.slices.specs.Code.Wrote.{Wrote}
use Rattle.slices.proofs.Writes.{wrote_on}
use Rattle.table.specs.Limits.{max_distances, max_tasks}
use Rattle.table.specs.Bytes.{bytes_of}
use Rattle.table.specs.declared.Row.{Row}
use Rattle.table.proofs.Words.{bytes-join}
use Rattle.table.specs.Record.{task_record}
use Rattle.writing.specs.Rows.{is_form, gap_bytes, count_byte, head_bytes, distance_bytes, pieces, list_bytes}
use Rattle.writing.specs.Code.Put.{distance_of}
use Rattle.writing.proofs.Forms.{mark-own}
use Rattle.writing.proofs.Pieces.{more-pieces}

-- a task record is two numbers of four bytes, the two counts are one of two
pub task-bytes : (priority cost : ℕ) → bytes_of 4 (19284 + 65536 * priority) ++ bytes_of 4 cost ≡ task_record priority cost
task-bytes priority cost = ap (λ l. l ++ bytes_of 4 cost) (bytes-join 2 2 19284 priority (omega arith))

pub count-bytes : (listed tasks : ℕ) → listed ≤ max_distances → tasks ≤ max_tasks → bytes_of 2 (listed + 256 * tasks) ≡ count_byte listed ++ count_byte tasks
count-bytes listed tasks l t =
    let a : min listed 255 ≡ listed = omega arith in
    let b : min tasks 255 ≡ tasks = omega arith in
    rw (a, b) (bytes-join 1 1 listed tasks (omega arith))

-- the fixed part of a row's record: three numbers of four or two, the gap, the counts
pub head_bytes_lem : (r : Row) → is_form r.form ≡ true → r.form < 65536 → r.kind < 256
    → bytes_of 4 (r.form + 65536 * r.id) ++ bytes_of 2 (r.kind + 256 * r.overload) ++ bytes_of 4 r.deadline ++ gap_bytes r.form r.flag r.gap
    ++ (count_byte r.listed ++ count_byte r.tasks)
    ≡ head_bytes r
unfolding head_bytes
head_bytes_lem r is f k =
    rw (mark-own r.form is, bytes-join 2 2 r.form r.id (omega arith), bytes-join 1 1 r.kind r.overload (omega arith)) (simp append_assoc)

-- Pieces

pub pieces_none : (f : ℕ → List ℕ) → pieces f 0 0 ≡ []
unfolding pieces
pieces_none f = refl

-- the next piece is put
pub pieces-on : (f : ℕ → List ℕ) (i : ℕ) {before mid after : List ℕ} {at here next : ℕ} → Wrote before at (pieces f i 0) mid here
    → Wrote mid here (f i) after next → Wrote before at (pieces f (i + 1) 0) after next
pieces-on f i {before} {mid} {after} {at} {here} {next} w v =
    let z : 0 + i ≡ i = omega arith in
    let e : pieces f i 0 ++ f i ≡ pieces f (i + 1) 0 = rw (add-one, more-pieces f i 0, z) in
    subst (λ text. Wrote before at text after next) e (wrote_on w v)

-- the next distance is put, where there is one
pub distances-on : (list : List ℕ) (n i : ℕ) {before mid after : List ℕ} {at here next : ℕ} → Wrote before at (list_bytes list (min i n)) mid here
    → Wrote mid here (distance_of list n i) after next → Wrote before at (list_bytes list (min (i + 1) n)) after next
distances-on list n i {before} {mid} {after} {at} {here} {next} w v = ⊎_elim
    (λ l.
    let a : min i n ≡ i = omega arith in
    let b : min (i + 1) n ≡ i + 1 = omega arith in
    subst (λ k. Wrote before at (list_bytes list k) after next) (sym b)
    (pieces-on (distance_bytes list) i (subst (λ k. Wrote before at (list_bytes list k) mid here) a w) (subst (λ text. Wrote mid here text after next) (when_yes _ _ (lt-ltb _ _ l)) v)))
    (λ l.
    let e : min i n ≡ min (i + 1) n = omega arith in
    subst (λ text. Wrote before at text after next) (append-nil (list_bytes list (min i n)) ∙ ap (list_bytes list) e)
    (wrote_on w (subst (λ text. Wrote mid here text after next) (when_no _ _ (le-ltb _ _ l)) v)))
    (lt_or_le i n)
