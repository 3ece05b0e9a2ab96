-- What is promised of a write: its rows are read back, and the rows of a table give its bytes again. Assumes nothing.
use Prim.Native.Nat.{ℕ, zero, suc, min, ◌+◌, ◌<◌, ◌≤◌}
use native.Mathlib.Omega.{arith}
use mathlib.Core.Path.{◌≡◌, refl, ap, sym, subst, ◌∙◌}
use mathlib.Core.List.{List, [], ◌∷◌, ◌++◌, map, flatten, append_assoc, append-nil}
use mathlib.Core.Bool.{true, false}
use mathlib.Core.Logic.{⊎_elim}
use borrow.Author.Tests.{le-ltb, ne_eqb}
use lib.ListN.{length, get_or, take, length-map}
use lib.Seq.{get_or-take}
use Rattle.search.specs.Lists.{All}
use Rattle.search.proofs.Choice.{true_or_false, lt_or_le}
use Rattle.table.specs.Limits.{max_chains, max_bytes, max_distances, max_tasks}
use Rattle.table.specs.Bytes.{bytes_of, Bytes}
use Rattle.table.specs.Record.{largest_form, form_at, end_record, pad, known_of}
use Rattle.table.specs.Find.{rows}
use Rattle.table.specs.Fault.{mark_of}
use Rattle.table.specs.Read.{empty, Reading, refused_by, records, limit_of, read_table, table_of}
use Rattle.table.specs.declared.Row.{Row}
use Rattle.std.specs.declared.result.Result.TheVariants.{Ok, Err}
use Rattle.table.specs.Refusal.{Verdict}
use Rattle.table.proofs.Firsts.{or_none}
use Rattle.table.proofs.Widths.{limit-largest, limit-least}
use Rattle.table.proofs.Words.{bytes-of, end-length}
use Rattle.table.proofs.Goods.{pad-at}
use Rattle.table.proofs.Steps.{read-on}
use Rattle.slices.proofs.Bytes.{bytes_append, bytes-flatten}
use Rattle.slices.proofs.Lengths.{form_or}
use Rattle.slices.proofs.Parts.{Whole, row_in, all_take}
use Rattle.slices.proofs.Parsed.{parts-rows}
use Rattle.table.specs.Record.{task_record}
use Rattle.writing.specs.Rows.{is_form, form_mark, gap_bytes, count_byte, head_bytes, distance_bytes, task_bytes, pieces, list_bytes, tasks_bytes, row_bytes, table_bytes, cleared, Typed}
use Rattle.writing.specs.Write as write
use Rattle.writing.specs.Code.Tally.{Refused, form_wrong, row_refusal, unjudged, Judgement, judged_with, judged_all, refusal_of, Fits, Small, SmallIn, JudgedWith, most_judged, JudgedRows}
use Rattle.writing.specs.declared.judged.Tally.{Tally}
use Rattle.writing.proofs.Forms.{mark-own, form-chain, are-bytes, lacks-none, known-flag}
use Rattle.writing.proofs.Faults.{refused-not, with-other, with-many, with-fault, with_none}
use Rattle.writing.proofs.Pieces.{row-length}
use Rattle.writing.proofs.Fields.{Stored, mark-stored, stored}
use Rattle.writing.proofs.Verdicts.{says-refused, row_read, length-read}
use Rattle.writing.proofs.Judging.{rows_verdict, Counts, GoodRows, judged-good}
use Rattle.writing.proofs.Answering.{table-length}
use Rattle.writing.proofs.Loops.{small-start}

-- The bytes of rows

-- pieces that are the same, and pieces of bytes
pieces-same : (f g : ℕ → List ℕ) (n i : ℕ) → ((j : ℕ) → j < i + n → f j ≡ g j) → pieces f n i ≡ pieces g n i
unfolding pieces
pieces-same f g zero i h = refl
pieces-same f g (suc n) i h = rw (h i (omega arith), pieces-same f g n (i + 1) (λ j l. h j (omega arith)))

pieces-bytes : (f : ℕ → List ℕ) → ((j : ℕ) → Bytes (f j)) → (n i : ℕ) → Bytes (pieces f n i)
unfolding pieces
pieces-bytes f h zero i = λ j. omega arith
pieces-bytes f h (suc n) i = bytes_append (f i) (pieces f n (i + 1)) (h i) (pieces-bytes f h n (i + 1))

-- what stands in a place past a count has no byte
place-past : (m n : ℕ) (l : List ℕ) (j : ℕ) → j < 0 + n → get_or (pad m (take n l)) j 0 ≡ get_or l j 0
place-past m n l j h = pad-at m (take n l) j ∙ get_or-take n l j 0 (omega arith)

row-past : (r : Row) → row_bytes (cleared r) ≡ row_bytes r
unfolding row_bytes head_bytes
row-past r =
    let known = known-flag r.form r.flag r.listed in
    let list = pieces-same (distance_bytes (cleared r).list) (distance_bytes r.list) r.listed 0 (λ j h. ap (bytes_of 4) (place-past max_distances r.listed r.list j h)) in
    let largest = pieces-same (distance_bytes (cleared r).largest) (distance_bytes r.largest) (known_of r) 0 (λ j h. ap (bytes_of 4) (place-past max_distances (known_of r) r.largest j h)) in
    let tasks = pieces-same (task_bytes (cleared r).priority (cleared r).cost) (task_bytes r.priority r.cost) r.tasks 0
    (λ i h. rw (place-past max_tasks r.tasks r.priority i h, place-past max_tasks r.tasks r.cost i h)) in
    rw (lacks-none r.form r.flag r.gap, known, list, largest, tasks)

pub table-past : (rs : List Row) → table_bytes (map cleared rs) ≡ table_bytes rs
unfolding table_bytes
table-past rs = rw (records-past rs, length-map rs cleared)
  where
    records-past : (l : List Row) → map row_bytes (map cleared l) ≡ map row_bytes l
    records-past [] = refl
    records-past (r ∷ l) = rw (row-past r, records-past l)

-- a task record, and a chain record, as their fields
task-fields : ℕ → ℕ → List (List ℕ)
task-fields priority cost = bytes_of 2 19284 ∷ bytes_of 2 priority ∷ bytes_of 4 cost ∷ []

task-bytes : (priority cost : ℕ) → Bytes (task_record priority cost)
unfolding flatten task-fields
task-bytes priority cost =
    let same : flatten (task-fields priority cost) ≡ task_record priority cost = simp (append_assoc, append-nil) in
    subst Bytes same (bytes-flatten (task-fields priority cost) (bytes-of 2 19284, (bytes-of 2 priority, (bytes-of 4 cost, tt))))

row-fields : Row → List (List ℕ)
row-fields r =
    bytes_of 2 (form_mark r.form) ∷ bytes_of 2 r.id ∷ bytes_of 1 r.kind ∷ bytes_of 1 r.overload ∷ bytes_of 4 r.deadline ∷ gap_bytes r.form r.flag r.gap
    ∷ count_byte r.listed ∷ count_byte r.tasks ∷ list_bytes r.list r.listed ∷ list_bytes r.largest (known_of r) ∷ tasks_bytes r.priority r.cost r.tasks ∷ []

row-bytes : (r : Row) → Bytes (row_bytes r)
unfolding row_bytes head_bytes flatten row-fields
row-bytes r =
    let same : flatten (row-fields r) ≡ row_bytes r = simp (append_assoc, append-nil) in
    let list = pieces-bytes (distance_bytes r.list) (λ j. bytes-of 4 (get_or r.list j 0)) r.listed 0 in
    let largest = pieces-bytes (distance_bytes r.largest) (λ j. bytes-of 4 (get_or r.largest j 0)) (known_of r) 0 in
    let tasks = pieces-bytes (task_bytes r.priority r.cost) (λ i. task-bytes (get_or r.priority i 0) (get_or r.cost i 0)) r.tasks 0 in
    let lists : All Bytes (list_bytes r.list r.listed ∷ list_bytes r.largest (known_of r) ∷ tasks_bytes r.priority r.cost r.tasks ∷ []) = (list, (largest, (tasks, tt))) in
    subst Bytes same (bytes-flatten (row-fields r) (
      bytes-of 2 (form_mark r.form),
      (
        bytes-of 2 r.id,
        (
          bytes-of 1 r.kind,
          (
            bytes-of 1 r.overload,
            (
              bytes-of 4 r.deadline,
              (
                are-bytes r.form r.flag r.gap,
                (bytes-of 1 (min r.listed 255), (bytes-of 1 (min r.tasks 255), lists)),
              ),
            ),
          ),
        ),
      ),
    ))

pub table-bytes : (rs : List Row) → Bytes (table_bytes rs)
unfolding table_bytes
table-bytes rs =
    bytes_append (flatten (map row_bytes rs)) (end_record (length rs)) (bytes-flatten (map row_bytes rs) (each rs))
    (bytes_append (bytes_of 2 20037) (bytes_of 2 (length rs)) (bytes-of 2 20037) (bytes-of 2 (length rs)))
  where
    each : (l : List Row) → All Bytes (map row_bytes l)
    each [] = tt
    each (r ∷ l) = (row-bytes r, each l)

-- Rows of their types are judged

judged-one : (j : Tally) (r : Row) → Typed r → Small j → JudgedWith j r (judged_with j r)
judged-one j r f s = ⊎_elim
    (λ w. own (with-other f w))
    (λ w. ⊎_elim
    (λ g. by w (λ e. omega (arith, e, g)) (row_refusal j r) refl)
    (λ g. own (with-many f w (omega (arith, s.count))))
    (lt_or_le j.count max_chains))
    (true_or_false (form_wrong j.form r.form))
  where
    own : {v : Judgement} → JudgedWith j r v → JudgedWith j r (judged_with j r)
    own w = subst (JudgedWith j r) w.is w

    by : form_wrong j.form r.form ≡ false → (j.count ≡ max_chains → ⊥) → (n : Refused) → row_refusal j r ≡ n → JudgedWith j r (judged_with j r)
    by w few (Ok u) e = own (with_none f w few s e)
    by w few (Err n) e = own (with-fault f w few e)

judged-small : (rs : List Row) (v : Judgement) → All Typed rs → SmallIn v → SmallIn (judged_all v rs)
unfolding judged_all
judged-small rs (Err n) f s = tt
judged-small [] (Ok j) f s = s
judged-small (r ∷ rs) (Ok j) f s = judged-small rs (judged_with j r) f.1 (judged-one j r f.0 s).small

all-fit : (rs : List Row) (v : Judgement) → All Typed rs → Fits v rs
unfolding Fits
all-fit rs (Err n) f = tt
all-fit [] (Ok j) f = tt
all-fit (r ∷ rs) (Ok j) f = (f.0, all-fit rs (judged_with j r) f.1)

pub all-judged : (rs : List Row) → All Typed (take most_judged rs) → JudgedRows rs (judged_all (Ok unjudged) (take most_judged rs))
all-judged rs f = record { fits = all-fit (take most_judged rs) (Ok unjudged) f; small = judged-small (take most_judged rs) (Ok unjudged) f small-start; is = refl }

-- without a fault they are good
pub sound : (v : Judgement) → refusal_of v ≡ Ok tt → (j : Tally) × (v ≡ Ok j)
sound (Ok j) e = (j, refl)
sound (Err n) e = absurd (refused-not e)

-- Rows that are written

-- how many bytes a table may have that begins as these do
abbrev limit : List ℕ → ℕ
limit s = limit_of (form_at s 0)

-- a row's record by itself
pub row-stored : (r : Row) → Typed r → Counts r → Stored (row_bytes r) 0 r
row-stored r g c = stored (row_bytes r) 0 r [] (sym (append-nil (row_bytes r))) g c.form (omega arith)

pub row-whole : (r : Row) → Typed r → Counts r → Whole (row_bytes r)
row-whole r g c = record {
  mark = ap mark_of (row-stored r g c).form ∙ form-chain r.form c.form;
  long = row-length r ∙ sym (length-read (row_bytes r) 0 r (row-stored r g c) g c.listed c.tasks);
}

pub row_back : (r : Row) → Typed r → Counts r → row_in (row_bytes r) ≡ cleared r
row_back r g c = row_read (row_bytes r) 0 r (row-stored r g c) g c.listed c.tasks

-- what the reader says of bytes is what it says with the length check left out, where they are no more than a table has
pub verdict_short : (rs : List Row) → length (table_bytes rs) ≤ limit (table_bytes rs) → read_table (table_bytes rs) ≡ records max_chains (table_bytes rs) 0 empty
verdict_short rs h = read-on (table_bytes rs) (or_none _ _ (ne_eqb (length (table_bytes rs)) 0 (λ z. omega (arith, table-length rs, z))) (le-ltb (limit (table_bytes rs)) (length (table_bytes rs)) h))

-- the first mark is the first row's
first-mark : (r : Row) (rs : List Row) → is_form r.form ≡ true → form_at (table_bytes (r ∷ rs)) 0 ≡ r.form
unfolding table_bytes flatten
first-mark r rs is =
    mark-stored (table_bytes (r ∷ rs)) 0 r (flatten (map row_bytes rs) ++ end_record (length (r ∷ rs))) (append_assoc (row_bytes r) (flatten (map row_bytes rs)) (end_record (length (r ∷ rs))))
    ∙ mark-own r.form is

-- rows of `CG`, if any, may have more
limit-first : (rs : List Row) (form : ℕ) → All (λ r. r.form ≡ form) rs → All Counts rs → form ≡ largest_form → length (table_bytes rs) ≤ max_bytes → length (table_bytes rs) ≤ limit (table_bytes rs)
unfolding flatten
limit-first [] form f c e h = omega (arith, table-length [], limit-least (form_at (table_bytes []) 0))
limit-first (r ∷ rs) form f c e h = subst (λ (n : ℕ). length (table_bytes (r ∷ rs)) ≤ n) (sym (limit-largest (form_at (table_bytes (r ∷ rs)) 0) (first-mark r rs c.0.form ∙ f.0 ∙ e))) h

module _ (rs : List Row) (f : All Typed rs) where
  pub judged : JudgedRows rs (judged_all (Ok unjudged) (take most_judged rs))
  judged = all-judged rs (all_take Typed most_judged rs f)

  module _ (verdict : write.verdict_on rs ≡ Ok tt) where
    abbrev known : (j : Tally) × (judged_all (Ok unjudged) (take most_judged rs) ≡ Ok j)
    known = sound _ (sym (says-refused (rows_verdict rs _ judged)) ∙ ap refused_by verdict)

    abbrev v : Tally
    v = known.0

    found : JudgedRows rs (Ok v)
    found = subst (JudgedRows rs) known.1 judged

    pub good : GoodRows rs unjudged v
    good = judged-good rs v found

    -- good rows are never too long
    pub short : length (table_bytes rs) ≤ limit (table_bytes rs)
    short =
        let small = found.small in
        let long = table-length rs in
        ⊎_elim
        (λ e. limit-first rs v.form good.forms good.rows e (omega (arith, long, good.bytes, small.bytes, small.count, small.tasks)))
        (λ h. omega (arith, limit-least (form_at (table_bytes rs) 0), long, good.bytes, small.gap_bytes_holds h, small.count, small.tasks))
        (form_or v.form)

    pub read : (read_table (table_bytes rs)).verdict ≡ Ok tt
    unfolding write.verdict_on
    read = ap (λ (r : Reading). r.verdict) (verdict_short rs short) ∙ verdict

    all_whole : (l : List Row) → All Typed l → All Counts l → All Whole (map row_bytes l)
    all_whole [] g c = tt
    all_whole (r ∷ l) g c = (row-whole r g.0 c.0, all_whole l g.1 c.1)

    all_back : (l : List Row) → All Typed l → All Counts l → map row_in (map row_bytes l) ≡ map cleared l
    all_back [] g c = refl
    all_back (r ∷ l) g c = rw (row_back r g.0 c.0, all_back l g.1 c.1)

    -- so they are read back, with 0 for what their form lacks and in the places past a count
    pub read_back : rows (table_of (table_bytes rs)) ≡ map cleared rs
    unfolding table_bytes
    read_back =
        parts-rows (table_bytes rs) (table_of (table_bytes rs)) (ap (λ (v : Verdict). record { verdict = v; table = table_of (table_bytes rs) }) read) (map row_bytes rs) (end_record (length rs))
        (record { bytes = refl; whole = all_whole rs f good.rows; last = end-length (length rs) }) ∙ all_back rs f good.rows
