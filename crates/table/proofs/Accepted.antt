-- Every accepted reading is a good table, and its bytes hold it. Assumes nothing.
use Prim.Native.Nat.{ℕ, zero, suc, ◌+◌, ◌*◌, ◌<◌, ◌≤◌}
use native.Mathlib.Omega.{arith}
use native.Mathlib.Numerals.{add-one}
use mathlib.Core.Path.{◌≡◌, refl, ap, sym, ◌∙◌}
use mathlib.Core.List.{List}
use mathlib.Core.Bool.{false, ◌||◌}
use mathlib.Core.Logic.{⊎_elim}
use borrow.Author.Count.{below_more}
use borrow.Author.Tests.{ltb-false, lt-ltb, eqb-false, eqb-true, not-false}
use lib.ListN.{length, take, set, length-set, length-replicate, get_or-replicate}
use lib.Dec.{eqb, ltb}
use lib.Seq.{get_or-set_same, get_or-set_other, take-set-le, take-suc-set}
use Rattle.search.specs.Lists.{sum_of}
use Rattle.search.proofs.Choice.{when_cases, lt_or_le}
use Rattle.search.proofs.Find.{first_miss}
use Rattle.search.proofs.Lists.{sum_append}
use Rattle.table.specs.Limits.{max_chains, max_all_tasks}
use Rattle.table.specs.Bytes.{word, Bytes}
use Rattle.table.specs.Record.{blank, form_at, id_at, first_task, length_at, row_at}
use Rattle.table.specs.Find.{row_of, rows, find_of, used}
use Rattle.table.specs.Fault.{mark_of, chain_fault, beside_fault, end_fault}
use Rattle.table.specs.Read.{empty, plus, refusal, accepted, unless, by_mark, start, records, limit_of, read_table}
use Rattle.table.specs.Place.{length_of, place_of}
use Rattle.table.specs.Code.Good.{GoodRow, GoodTable}
use Rattle.table.specs.Code.Taken.{Taken, Holds}
use Rattle.table.specs.declared.Row.{Row}
use Rattle.table.specs.declared.Table.{Table}
use Rattle.table.specs.Read.{Reading}
use Rattle.table.specs.declared.Mark.{Mark}
use Rattle.table.specs.declared.Mark.TheVariants.{Chain, Task, End, Unknown}
use Rattle.table.specs.Refusal.{Verdict}
use Rattle.std.specs.declared.result.Result.TheVariants.{Ok, Err}
use Rattle.table.specs.declared.refusal.Refusal.{Refusal}
use Rattle.table.specs.declared.refusal.Refusal.TheVariants.{BadLength, BytesMissing, BadMark, BadChainCount}
use Rattle.table.proofs.Firsts.{or_right, not-accepted, when_none}
use Rattle.table.proofs.Faultless.{chain-right, BesideRight, beside-right}
use Rattle.table.proofs.Goods.{row-good}
use Rattle.table.proofs.Standing.{place_none}
use Rattle.table.proofs.Steps.{read-long}

-- what the rows read so far are, where the next record starts at `at`
record RowsKept (s : List ℕ) (at : ℕ) (t : Table) : Type 0 where
  few : t.count ≤ max_chains
  long : length t.row ≡ max_chains
  row : (chain : ℕ) → chain < t.count → GoodRow (row_of t chain)
  forms : (chain : ℕ) → chain < t.count → (row_of t chain).form ≡ form_at s 0
  ids : (other chain : ℕ) → other < t.count → chain < t.count → (row_of t other).id ≡ (row_of t chain).id → other ≡ chain
  past : (chain : ℕ) → t.count ≤ chain → chain < max_chains → row_of t chain ≡ blank
  tasks : t.tasks ≡ sum_of (λ r. r.tasks) (rows t)
  tasks_max : t.tasks ≤ max_all_tasks
  place : at ≡ place_of t t.count
  marks : (chain : ℕ) → chain < t.count → mark_of (word 2 s (place_of t chain)) ≡ Chain
  makes : (chain : ℕ) → chain < t.count → row_at s (place_of t chain) ≡ row_of t chain
  task_marks : (chain : ℕ) → chain < t.count → (i : ℕ) → i < (row_of t chain).tasks → mark_of (word 2 s (first_task s (place_of t chain) + 8 * i)) ≡ Task
  inside : (chain : ℕ) → chain < t.count → place_of t chain + length_of (row_of t chain) ≤ length s

kept-empty : (s : List ℕ) → RowsKept s 0 empty
unfolding sum_of
kept-empty s = record {
  few = omega arith;
  long = length-replicate max_chains blank;
  row = λ chain h. absurd (omega (arith, h));
  forms = λ chain h. absurd (omega (arith, h));
  ids = λ other chain h g e. absurd (omega (arith, h));
  past = λ chain h g. get_or-replicate max_chains chain blank blank g;
  tasks = refl;
  tasks_max = omega arith;
  place = place_none empty;
  marks = λ chain h. absurd (omega (arith, h));
  makes = λ chain h. absurd (omega (arith, h));
  task_marks = λ chain h. absurd (omega (arith, h));
  inside = λ chain h. absurd (omega (arith, h));
}

-- an id that is not used is no earlier row's
pub fresh : (t : Table) (id : ℕ) → used t id ≡ false → (chain : ℕ) → chain < t.count → (row_of t chain).id ≡ id → ⊥
unfolding find_of
fresh t id e chain h =
    let g : t.count ≤ find_of t id = ltb-false _ _ e in
    eqb-false _ _ (first_miss (λ other. eqb (row_of t other).id id) 0 t.count chain (omega arith) (omega arith))

-- one row more
module _ (s : List ℕ) (at : ℕ) (t : Table) (g : RowsKept s at t) (bytes : Bytes s) (room : t.count < max_chains)
    (mark : mark_of (word 2 s at) ≡ Chain) (form : form_at s at ≡ form_at s 0) (right : chain_fault s at t ≡ Ok tt) where
  abbrev r : Row
  r = row_at s at

  old : (chain : ℕ) → chain < t.count → row_of (plus t r) chain ≡ row_of t chain
  old chain h = get_or-set_other t.row t.count chain r blank (λ e. omega (arith, e))

  new : row_of (plus t r) t.count ≡ r
  new = get_or-set_same t.row t.count r blank (omega (arith, g.long))

  before : (chain : ℕ) → chain ≤ t.count → place_of (plus t r) chain ≡ place_of t chain
  unfolding place_of
  before chain h = ap (sum_of length_of) (take-set-le chain t.row t.count r h)

  here : place_of (plus t r) t.count ≡ at
  here = before t.count (omega arith) ∙ sym g.place

  sums : (f : Row → ℕ) → sum_of f (take (t.count + 1) (set t.row t.count r)) ≡ sum_of f (rows t) + f r
  unfolding sum_of
  sums f = rw (add-one, take-suc-set t.row t.count r (omega (arith, g.long)), sum_append f) (omega arith)

  -- a fact of each row, of the old ones and of the new one
  more : (P : ℕ → Type 0) → ((chain : ℕ) → chain < t.count → P chain) → P t.count → (chain : ℕ) → chain < t.count + 1 → P chain
  more P f h = below_more P t.count f h

  kept-plus : RowsKept s (at + length_at s at) (plus t r)
  unfolding row_at place_of
  kept-plus =
      let c = chain-right s at t right in
      record {
        few = omega arith;
        long = simp length-set g.long;
        row = more (λ chain. GoodRow (row_of (plus t r) chain)) (λ chain h. rw (old chain h) (g.row chain h)) (rw new (row-good s at t bytes mark right));
        forms = more (λ chain. (row_of (plus t r) chain).form ≡ form_at s 0) (λ chain h. rw (old chain h) (g.forms chain h)) (rw new form);
        ids = ids;
        past = λ chain h l. get_or-set_other t.row t.count chain r blank (λ e. omega (arith, e, h)) ∙ g.past chain (omega (arith, h)) l;
        tasks = tasks;
        tasks_max = c.head.all;
        place = place;
        marks = more (λ chain. mark_of (word 2 s (place_of (plus t r) chain)) ≡ Chain) (λ chain h. rw (before chain (omega arith)) (g.marks chain h)) (rw here mark);
        makes = more (λ chain. row_at s (place_of (plus t r) chain) ≡ row_of (plus t r) chain) (λ chain h. rw (before chain (omega arith), old chain h) (g.makes chain h)) (rw (here, new));
        task_marks =
            more (λ chain. (i : ℕ) → i < (row_of (plus t r) chain).tasks → mark_of (word 2 s (first_task s (place_of (plus t r) chain) + 8 * i)) ≡ Task)
            (λ chain h. rw (before chain (omega arith), old chain h) (g.task_marks chain h)) (rw (here, new) (λ i h. (c.tasks i h).mark));
        inside = more (λ chain. place_of (plus t r) chain + length_of (row_of (plus t r) chain) ≤ length s) (λ chain h. rw (before chain (omega arith), old chain h) (g.inside chain h)) (rw (here, new) c.there);
      }
    where
      id-new : (chain : ℕ) → chain < t.count → (row_of (plus t r) chain).id ≡ (row_of (plus t r) t.count).id → ⊥
      id-new chain h e = fresh t (id_at s at) (chain-right s at t right).head.fresh chain h (ap (λ (x : Row). x.id) (sym (old chain h)) ∙ e ∙ ap (λ (x : Row). x.id) new)

      ids : (other chain : ℕ) → other < t.count + 1 → chain < t.count + 1 → (row_of (plus t r) other).id ≡ (row_of (plus t r) chain).id → other ≡ chain
      ids other chain h l = more (λ other. (chain : ℕ) → chain < t.count + 1 → (row_of (plus t r) other).id ≡ (row_of (plus t r) chain).id → other ≡ chain)
          (λ other h. more (λ chain. (row_of (plus t r) other).id ≡ (row_of (plus t r) chain).id → other ≡ chain)
          (λ chain l e. g.ids other chain h l (ap (λ (x : Row). x.id) (sym (old other h)) ∙ e ∙ ap (λ (x : Row). x.id) (old chain l)))
          (λ e. absurd (id-new other h e)))
          (more (λ chain. (row_of (plus t r) t.count).id ≡ (row_of (plus t r) chain).id → t.count ≡ chain) (λ chain l e. absurd (id-new chain l (sym e))) (λ e. refl))
          other h chain l

      tasks : t.tasks + r.tasks ≡ sum_of (λ r. r.tasks) (rows (plus t r))
      tasks = omega (arith, g.tasks, sums (λ r. r.tasks))

      stands : place_of t t.count ≡ sum_of length_of (rows t)
      stands = refl

      place : at + length_at s at ≡ place_of (plus t r) (t.count + 1)
      place = omega (arith, g.place, sums length_of, stands)

-- what is to be shown of a reading
GoodReading : List ℕ → Reading → Type 0
GoodReading s r = r.verdict ≡ Ok tt → GoodTable r.table × Holds s r.table

refused : (s : List ℕ) (n : Refusal) (place : ℕ) → GoodReading s (refusal n place)
unfolding GoodReading
refused s n place e = absurd (not-accepted e)

unless-sound : (s : List ℕ) (v : Verdict) (r : Reading) → (v ≡ Ok tt → GoodReading s r) → GoodReading s (unless refusal v r)
unfolding unless
unless-sound s (Ok u) r g = g refl
unless-sound s (Err f) r g = refused s f.0 f.1

-- the end record is whole, counts the rows, and is the last
end-sound : (s : List ℕ) (at : ℕ) (t : Table) → RowsKept s at t → mark_of (word 2 s at) ≡ End → end_fault s at t ≡ Ok tt → GoodReading s (accepted t)
unfolding end_fault GoodReading
end-sound s at t g mark e a =
    let some = when_none _ _ _ _ (when_none _ _ _ _ e).1 in
    let count = when_none _ _ _ _ some.1 in
    let none : t.count ≡ 0 → ⊥ = eqb-false _ _ some.0 in
    let last : length s ≡ at + 4 = eqb-true _ _ (not-false _ (when_none _ _ _ _ count.1).0) in (
      record { some = omega arith; few = g.few; row = g.row; forms = λ chain h. g.forms chain h ∙ sym (g.forms 0 (omega arith)); ids = g.ids; past = g.past; size = g.long; tasks = g.tasks; tasks_max = g.tasks_max },
      record {
        marks = g.marks;
        makes = g.makes;
        task_marks = g.task_marks;
        inside = g.inside;
        end_mark = ap (λ n. mark_of (word 2 s n)) (sym g.place) ∙ mark;
        ends = omega (arith, g.place, last);
        counts = ap (λ n. word 2 s (n + 2)) (sym g.place) ∙ eqb-true _ _ (not-false _ count.0);
      },
    )

start-sound : (s : List ℕ) (at : ℕ) (t : Table) (next : Reading) → RowsKept s at t → (mark_of (word 2 s at) ≡ Chain → BesideRight s at (form_at s 0) t → GoodReading s next)
    → GoodReading s (start s at t next)
unfolding start
start-sound s at t next g f =
    when_cases (GoodReading s) (ltb (length s) (at + 2)) (λ e. refused s BytesMissing (length s)) (λ e. by (mark_of (word 2 s at)) refl)
  where
    by : (m : Mark) → mark_of (word 2 s at) ≡ m → GoodReading s (by_mark at m (unless refusal (beside_fault s at (form_at s 0) t) next) (unless refusal (end_fault s at t) (accepted t)))
    by Chain e = unless-sound s (beside_fault s at (form_at s 0) t) next (λ h. f e (beside-right s at (form_at s 0) t h))
    by Task e = refused s BadMark at
    by End e = unless-sound s (end_fault s at t) (accepted t) (end-sound s at t g e)
    by Unknown e = refused s BadMark at

records-sound : (left : ℕ) (s : List ℕ) (at : ℕ) (t : Table) → Bytes s → RowsKept s at t → t.count + left ≤ max_chains → GoodReading s (records left s at t)
unfolding records
records-sound zero s at t bytes g h = start-sound s at t (refusal BadChainCount at) g (λ m r. refused s BadChainCount at)
records-sound (suc left) s at t bytes g h =
    start-sound s at t _ g
    (λ m r. records-sound left s (at + length_at s at) (plus t (row_at s at)) bytes (kept-plus s at t g bytes (omega arith) m r.form r.chain) (omega arith))

sound : (s : List ℕ) → Bytes s → GoodReading s (read_table s)
unfolding read_table
sound s bytes = when_cases (GoodReading s) (eqb (length s) 0 || ltb (limit_of (word 2 s 0)) (length s)) (λ e. refused s BadLength 0)
    (λ e. records-sound max_chains s 0 empty bytes (kept-empty s) (omega arith))

-- the bytes of an accepted table: within every limit, and they hold it
pub taken : (s : List ℕ) → Bytes s → (read_table s).verdict ≡ Ok tt → Taken s
unfolding GoodReading
taken s bytes a = let x = sound s bytes a in record { good = x.0; holds = x.1 }

-- an accepted table is within the limit by its first mark
pub accepted-short : (s : List ℕ) → (read_table s).verdict ≡ Ok tt → length s ≤ limit_of (word 2 s 0)
accepted-short s e =
    ⊎_elim (λ h. absurd (not-accepted (sym (ap (λ (r : Reading). r.verdict) (read-long s (or_right (eqb (length s) 0) _ (lt-ltb _ _ h)))) ∙ e))) (λ h. h)
    (lt_or_le (limit_of (word 2 s 0)) (length s))
