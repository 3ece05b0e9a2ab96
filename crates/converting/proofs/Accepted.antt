-- Good rows of one form, no two with one id, are written as an accepted table, and read back as they are. Assumes nothing.
use Prim.Native.Nat.{ℕ, ◌+◌, ◌*◌, ◌<◌, ◌≤◌}
use native.Mathlib.Omega.{arith}
use mathlib.Core.Path.{◌≡◌, refl, ap, sym, subst, ◌∙◌}
use mathlib.Core.List.{List, [], ◌∷◌, map}
use mathlib.Core.Bool.{true, ◌||◌}
use mathlib.Core.Logic.{◌⊎◌, ⊎_elim}
use lib.ListN.{length, get_or, length-map}
use Rattle.search.specs.Choice.{◌when◌else◌}
use lib.Dec.{eqb, ltb}
use Rattle.search.specs.Lists.{sum_of, All}
use Rattle.search.proofs.Choice.{when_cases}
use Rattle.table.specs.Limits.{max_chains, max_all_tasks}
use Rattle.table.specs.Bytes.{word}
use Rattle.table.specs.Record.{gap_form, largest_form, blank, tasks_at, first_task, row_at}
use Rattle.table.specs.Find.{rows}
use Rattle.table.specs.Fault.{mark_of}
use Rattle.table.specs.Place.{tasks_start}
use Rattle.table.specs.Read.{Reading, read_table, table_of, limit_of}
use Rattle.table.specs.Code.Good.{GoodRow}
use Rattle.table.specs.declared.Row.{Row}
use Rattle.std.specs.declared.result.Result.TheVariants.{Ok}
use Rattle.table.proofs.Firsts.{not-accepted}
use Rattle.table.proofs.Stands.{tasks-there}
use Rattle.slices.proofs.Parts.{all-at, map_at}
use Rattle.slices.proofs.Sound.{Sound, tasks_in}
use Rattle.slices.proofs.Together.{Together}
use Rattle.slices.proofs.Together as slices
use Rattle.writing.specs.Rows.{is_form, row_bytes, table_bytes, cleared, Typed}
use Rattle.writing.specs.Write.{verdict_on}
use Rattle.writing.proofs.Fields.{Stored}
use Rattle.writing.proofs.Judging.{Counts}
use Rattle.writing.proofs.Promises.{row-stored, row-whole, row_back, read_back}
use Rattle.writing.proofs.Typed.{cleared-good}

-- rows that a table can have
pub record RowsTogether (rs : List Row) : Type 0 where
  pub good : All GoodRow rs
  pub typed : All Typed rs
  pub some : 1 ≤ length rs
  pub few : length rs ≤ max_chains
  pub forms : (i : ℕ) → i < length rs → (get_or rs i blank).form ≡ (get_or rs 0 blank).form
  pub ids : (i j : ℕ) → i < length rs → j < length rs → (get_or rs i blank).id ≡ (get_or rs j blank).id → i ≡ j
  pub tasks : sum_of (λ r. r.tasks) rs ≤ max_all_tasks

-- a good row's record is sound by itself
module _ {r : Row} (good : GoodRow r) (typed : Typed r) where
  counts : Counts r
  counts = record { form = is-form r.form good.form; some = omega (arith, good.listed, good.list.some); listed = omega (arith, good.listed, good.list.few); tasks = good.tasks.few }
    where
      is-form : (f : ℕ) → (f ≡ gap_form) ⊎ (f ≡ largest_form) → is_form f ≡ true
      is-form f h = ⊎_elim (λ e. rw e) (λ e. rw e) h

  stored : Stored (row_bytes r) 0 r
  stored = row-stored r typed counts

  made : row_at (row_bytes r) 0 ≡ r
  made = row_back r typed counts ∙ cleared-good good typed

  tasks-are : tasks_at (row_bytes r) 0 ≡ r.tasks
  unfolding row_at
  tasks-are = ap (λ (x : Row). x.tasks) made

  pub row-sound : Sound (row_bytes r)
  unfolding mark_of ◌when◌else◌
  row-sound = record {
    whole = row-whole r typed counts;
    good = subst GoodRow (sym made) good;
    task_marks = λ i l.
        let first : first_task (row_bytes r) 0 ≡ 0 + tasks_start r = tasks-there (row_bytes r) 0 ∙ ap (λ (x : Row). 0 + tasks_start x) made in
        ap (λ n. mark_of (word 2 (row_bytes r) (n + 8 * i))) first ∙ ap mark_of (stored.task_mark i (omega (arith, l, tasks-are)));
  }

all_sound : (rs : List Row) → All GoodRow rs → All Typed rs → All Sound (map row_bytes rs)
all_sound [] g t = tt
all_sound (r ∷ rs) g t = (row-sound g.0 t.0, all_sound rs g.1 t.1)

all-tasks : (rs : List Row) → All GoodRow rs → All Typed rs → tasks_in (map row_bytes rs) ≡ sum_of (λ r. r.tasks) rs
unfolding sum_of
all-tasks [] g t = refl
all-tasks (r ∷ rs) g t = rw (tasks-are g.0 t.0, all-tasks rs g.1 t.1)

-- so are they together
module _ {rs : List Row} (t : RowsTogether rs) where
  abbrev records : List (List ℕ)
  records = map row_bytes rs

  abbrev row : ℕ → Row
  row i = get_or rs i blank

  n : length records ≡ length rs
  n = length-map rs row_bytes

  here : (i : ℕ) → i < length records → Stored (get_or records i []) 0 (row i)
  here i l =
      let h : i < length rs = omega (arith, n) in
      subst (λ (b : List ℕ). Stored b 0 (row i)) (sym (map_at row_bytes rs i blank [] h)) (stored (all-at GoodRow rs i blank t.good h) (all-at Typed rs i blank t.typed h))

  records-together : Together records
  records-together = record {
    sound = all_sound rs t.good t.typed;
    some = omega (arith, n, t.some);
    few = omega (arith, n, t.few);
    forms = λ i h. (here i h).form ∙ t.forms i (omega (arith, n)) ∙ sym (here 0 (omega (arith, n, t.some))).form;
    ids = λ i j h l e. t.ids i j (omega (arith, n)) (omega (arith, n)) (sym (here i h).id ∙ e ∙ (here j l).id);
    tasks = omega (arith, all-tasks rs t.good t.typed, t.tasks);
  }

  pub together-accepted : (read_table (table_bytes rs)).verdict ≡ Ok tt
  unfolding table_bytes
  together-accepted = rw (← n) (slices.together-accepted records-together)

  -- the reader's length check changes nothing, and they read back
  pub together-written : verdict_on rs ≡ Ok tt
  unfolding verdict_on read_table
  together-written =
      when_cases (λ (r : Reading). r.verdict ≡ Ok tt → verdict_on rs ≡ Ok tt) (eqb (length (table_bytes rs)) 0 || ltb (limit_of (word 2 (table_bytes rs) 0)) (length (table_bytes rs)))
      (λ e f. absurd (not-accepted f)) (λ e f. f) together-accepted

  pub together-back : rows (table_of (table_bytes rs)) ≡ rs
  together-back = read_back rs t.typed together-written ∙ all_clear rs t.good t.typed
    where
      all_clear : (l : List Row) → All GoodRow l → All Typed l → map cleared l ≡ l
      all_clear [] g f = refl
      all_clear (r ∷ l) g f = rw (cleared-good g.0 f.0, all_clear l g.1 f.1)
