-- A table that can be converted: its rows, the table that they make, and what each way the code ends answers. Assumes nothing.
use Prim.Native.Nat.{ℕ, ◌+◌, ◌<◌, ◌≤◌}
use mathlib.Core.Path.{◌≡◌, refl, ap, sym, subst, ◌∙◌}
use mathlib.Core.Bool.{true, not, ◌||◌}
use mathlib.Core.List.{List, ◌++◌, map, flatten}
use mathlib.Core.Logic.{◌⊎◌, ⊎_elim}
use native.Mathlib.Omega.{arith}
use lib.Dec.{eqb, ltb}
use lib.ListN.{length, get_or, drop, length-append, length-map}
use lib.Seq.{get_or-take, length-take-le}
use borrow.Author.Tests.{ne_eqb, lt-ltb, le-ltb}
use Rattle.search.specs.Choice.{◌when◌else◌}
use Rattle.search.specs.Lists.{sum_of, All, every}
use Rattle.search.proofs.Choice.{when_yes, when_no}
use Rattle.search.proofs.Lists.{all_of, every-says, all_after, sum_ext, sum-map}
use Rattle.table.specs.Bytes.{Bytes}
use Rattle.table.specs.Record.{gap_form, largest_form, form_at, blank, row_at, end_record}
use Rattle.table.specs.Find.{row_of, rows}
use Rattle.table.specs.Place.{length_of, place_of}
use Rattle.table.specs.Read.{by_verdict, read_table, table_of}
use Rattle.table.specs.Code.Good.{GoodRow, GoodTable}
use Rattle.table.specs.declared.Row.{Row}
use Rattle.table.specs.declared.Table.{Table}
use Rattle.std.specs.declared.result.Result.TheVariants.{Ok, Err}
use Rattle.table.specs.Refusal.{Verdict}
use Rattle.table.specs.declared.refusal.Fault.{Fault}
use Rattle.table.specs.declared.refusal.Refusal.TheVariants.{BufferShort, NoSuchForm}
use Rattle.table.proofs.Accepted.{taken}
use Rattle.table.proofs.Standing.{place_none}
use Rattle.table.proofs.Words.{end-length}
use Rattle.slices.specs.Slices.{splice}
use Rattle.slices.specs.Code.Wrote.{Wrote}
use Rattle.slices.proofs.Parts.{all-at, map_at}
use Rattle.slices.proofs.Writes.{wrote_on, wrote_put}
use Rattle.writing.specs.Rows.{row_bytes, table_bytes, Typed}
use Rattle.writing.specs.Write.{written_of}
use Rattle.writing.proofs.Typed.{row_typed}
use Rattle.writing.proofs.Promises.{table-bytes}
use Rattle.converting.specs.Forms.{form_of, fits_form, converted}
use Rattle.converting.specs.Convert.{rows_in, converted_of, Converts}
use Rattle.converting.specs.declared.To.{To}
use Rattle.converting.specs.declared.To.TheVariants.{Largest, Gap}
use Rattle.converting.proofs.Typed.{converted-typed}
use Rattle.converting.proofs.Goods.{largest-good, gap-good}
use Rattle.converting.proofs.Accepted.{RowsTogether, together-accepted, together-written, together-back}
use Rattle.converting.proofs.Puts.{records-sum}

-- the bytes of an accepted table
pub record Given (s : List ℕ) : Type 0 where
  pub bytes : Bytes s
  pub accepted : (read_table s).verdict ≡ Ok tt

-- a table's rows: each good, of its fields' widths, and of the first one's form, which is the first mark
module _ {s : List ℕ} (h : Given s) where
  abbrev t : Table
  t = table_of s

  pub good : GoodTable t
  good = (taken s h.bytes h.accepted).good

  pub long : length (rows t) ≡ t.count
  long = length-take-le t.count t.row (omega (arith, good.few, good.size))

  pub row-at : (i : ℕ) → i < t.count → get_or (rows t) i blank ≡ row_of t i
  row-at i l = get_or-take t.count t.row i blank l

  makes : (i : ℕ) → i < t.count → row_at s (place_of t i) ≡ row_of t i
  makes i l = (taken s h.bytes h.accepted).holds.makes i l

  pub typed : (i : ℕ) → i < t.count → Typed (row_of t i)
  typed i l = subst Typed (makes i l) (row_typed s (place_of t i) h.bytes (subst GoodRow (sym (makes i l)) (good.row i l)))

  pub first-mark : form_at s 0 ≡ (row_of t 0).form
  unfolding row_at
  first-mark = ap (form_at s) (place_none t) ∙ ap (λ (r : Row). r.form) (makes 0 good.some)

  -- what holds of each row by its number
  pub each : (P : Row → Type 0) → ((i : ℕ) → i < t.count → P (row_of t i)) → All P (rows t)
  each P f = all_of P blank (rows t) (λ i l. let k : i < t.count = omega (arith, long) in subst P (sym (row-at i k)) (f i k))

-- the form that a table to be converted has
abbrev pub source : To → ℕ
source Largest = gap_form
source Gap = largest_form

from-source : (to : To) (f : ℕ) → (f ≡ gap_form) ⊎ (f ≡ largest_form) → (f ≡ form_of to → ⊥) → f ≡ source to
from-source Largest f is other = ⊎_elim (λ e. e) (λ e. absurd (other e)) is
from-source Gap f is other = ⊎_elim (λ e. absurd (other e)) (λ e. e) is

-- what a conversion keeps of a row, and what it gives it
pub form-given : (to : To) (r : Row) → (converted to r).form ≡ form_of to
form-given Largest r = refl
form-given Gap r = refl

pub id-kept : (to : To) (r : Row) → (converted to r).id ≡ r.id
id-kept Largest r = refl
id-kept Gap r = refl

tasks-kept : (to : To) (r : Row) → (converted to r).tasks ≡ r.tasks
tasks-kept Largest r = refl
tasks-kept Gap r = refl

-- a row that can be converted
pub record Convertible (to : To) (r : Row) : Type 0 where
  pub good : GoodRow r
  pub typed : Typed r
  pub form : r.form ≡ source to
  pub fits : fits_form to r ≡ true

pub row-good : (to : To) {r : Row} → Convertible to r → GoodRow (converted to r)
row-good Largest c = largest-good c.good c.form
row-good Gap c = gap-good c.good c.form c.fits

-- a table that can be converted
module _ (to : To) {s : List ℕ} (h : Given s) (other : form_at s 0 ≡ form_of to → ⊥) (fit : every (fits_form to) (rows (table_of s)) ≡ true) where
  pub from : (i : ℕ) → i < (table_of s).count → Convertible to (row_of (table_of s) i)
  from i l = record {
    good = (good h).row i l;
    typed = typed h i l;
    form = from-source to _ ((good h).row i l).form (λ e. other (first-mark h ∙ sym ((good h).forms i l) ∙ e));
    fits = subst (λ (r : Row). fits_form to r ≡ true) (row-at h i l) (all-at (λ r. fits_form to r ≡ true) (rows (table_of s)) i blank (every-says (fits_form to) (rows (table_of s)) fit) (omega (arith, long h)));
  }

  abbrev rs : List Row
  rs = rows_in to s

  count : length rs ≡ (table_of s).count
  count = length-map (rows (table_of s)) (converted to) ∙ long h

  row_in : (i : ℕ) → i < (table_of s).count → get_or rs i blank ≡ converted to (row_of (table_of s) i)
  row_in i l = map_at (converted to) (rows (table_of s)) i blank blank (omega (arith, long h)) ∙ ap (converted to) (row-at h i l)

  pub together : RowsTogether rs
  together = record {
    good = all_after GoodRow (converted to) (rows (table_of s)) (each h (λ r. GoodRow (converted to r)) (λ i l. row-good to (from i l)));
    typed = all_after Typed (converted to) (rows (table_of s)) (each h (λ r. Typed (converted to r)) (λ i l. converted-typed to (from i l).good (from i l).typed));
    some = omega (arith, count, (good h).some);
    few = omega (arith, count, (good h).few);
    forms = λ i l. given i l ∙ sym (given 0 (omega (arith, l)));
    ids = λ i j l m e. (good h).ids i j (omega (arith, count)) (omega (arith, count)) (sym (named i l) ∙ e ∙ named j m);
    tasks = omega (arith, sum-map (λ (r : Row). r.tasks) (converted to) (rows (table_of s)), sum_ext (λ a. (converted to a).tasks) (λ a. a.tasks) (rows (table_of s)) (tasks-kept to), (good h).tasks, (good h).tasks_max);
  }
    where
      given : (i : ℕ) → i < length rs → (get_or rs i blank).form ≡ form_of to
      given i l = let k : i < (table_of s).count = omega (arith, count) in ap (λ (r : Row). r.form) (row_in i k) ∙ form-given to (row_of (table_of s) i)

      named : (i : ℕ) → i < length rs → (get_or rs i blank).id ≡ (row_of (table_of s) i).id
      named i l = let k : i < (table_of s).count = omega (arith, count) in ap (λ (r : Row). r.id) (row_in i k) ∙ id-kept to (row_of (table_of s) i)

  -- the result is an accepted table of that form, and has these rows
  pub result : Given (table_bytes rs)
  result = record { bytes = table-bytes rs; accepted = together-accepted together }

  pub result-back : rows (table_of (table_bytes rs)) ≡ rs
  result-back = together-back together

  pub result-mark : form_at (table_bytes rs) 0 ≡ form_of to
  result-mark =
      first-mark result ∙ ap (λ (r : Row). r.form) (sym (row-at result 0 (good result).some) ∙ ap (λ (l : List Row). get_or l 0 blank) result-back ∙ row_in 0 (good h).some)
      ∙ form-given to (row_of (table_of s) 0)

  -- what is answered
  pub unrefused : (room : ℕ) → converted_of to room s ≡ written_of room rs
  unfolding converted_of
  unrefused room =
      ap (λ (v : Verdict). by_verdict Err v (Err NoSuchForm when eqb (form_at s 0) (form_of to) || not (every (fits_form to) (rows (table_of s))) else written_of room rs)) h.accepted
      ∙ when_no _ _ (rw (ne_eqb _ _ other, fit))

  -- the result's length, and what is left where there is room for it and where not
  result-long : length (table_bytes rs) ≡ sum_of length_of rs + 4
  unfolding table_bytes
  result-long = length-append (flatten (map row_bytes rs)) (end_record (length rs)) ∙ omega (arith, records-sum rs, end-length (length rs))

  pub written : (room : ℕ) → converted_of to room s ≡ (Err BufferShort when ltb room (length (table_bytes rs)) else Ok (length (table_bytes rs)))
  unfolding written_of
  written room = unrefused room ∙ ap (λ (v : Verdict). by_verdict Err v (Err BufferShort when ltb room (length (table_bytes rs)) else Ok (length (table_bytes rs)))) (together-written together)

  pub short : (buffer : List ℕ) → length buffer < sum_of length_of rs + 4 → Converts to s buffer (Err BufferShort) buffer
  short buffer l = record { answers = sym (written (length buffer) ∙ when_yes _ _ (lt-ltb (length buffer) (length (table_bytes rs)) (omega (arith, l, result-long)))); leaves = sym (when_no _ _ refl) }

  pub put : (buffer mid after : List ℕ) (at n : ℕ) → sum_of length_of rs + 4 ≤ length buffer → n ≡ sum_of length_of rs + 4
      → Wrote buffer 0 (flatten (map row_bytes rs)) mid at → after ≡ splice mid at 4 (end_record (table_of s).count) → Converts to s buffer (Ok n) after
  unfolding table_bytes
  put buffer mid after at n room e w f =
      let ends : after ≡ splice mid at 4 (end_record (length rs)) = f ∙ ap (λ m. splice mid at 4 (end_record m)) (sym count) in
      let all = wrote_on w (wrote_put mid at (end_record (length rs)) after 4 (at + 4) (end-length (length rs)) refl (omega (arith, room, w.ends, w.long, records-sum rs)) ends) in
      let z : 0 + length (table_bytes rs) ≡ length (table_bytes rs) = omega arith in
      record {
        answers = sym (written (length buffer) ∙ when_no _ _ (le-ltb (length buffer) (length (table_bytes rs)) (omega (arith, room, result-long))) ∙ ap Ok (result-long ∙ sym e));
        leaves = all.holds ∙ ap (λ m. table_bytes rs ++ drop m buffer) z ∙ sym (when_yes _ _ refl);
      }

-- of an accepted table that cannot be said in the form asked
pub no-form : (to : To) (s buffer : List ℕ) → (read_table s).verdict ≡ Ok tt → (eqb (form_at s 0) (form_of to) || not (every (fits_form to) (rows (table_of s)))) ≡ true
    → Converts to s buffer (Err NoSuchForm) buffer
unfolding converted_of
no-form to s buffer a e = record {
  answers =
      sym (ap (λ (v : Verdict). by_verdict Err v (Err NoSuchForm when eqb (form_at s 0) (form_of to) || not (every (fits_form to) (rows (table_of s))) else written_of (length buffer) (rows_in to s))) a ∙ when_yes _ _ e);
  leaves = sym (when_no _ _ refl);
}

-- a refused table
pub refused-table : (to : To) (s buffer : List ℕ) {f : Fault} → (read_table s).verdict ≡ Err f → Converts to s buffer (Err f.0) buffer
unfolding converted_of
refused-table to s buffer a = record {
  answers =
      sym (ap (λ (v : Verdict). by_verdict Err v (Err NoSuchForm when eqb (form_at s 0) (form_of to) || not (every (fits_form to) (rows (table_of s))) else written_of (length buffer) (rows_in to s))) a);
  leaves = sym (when_no _ _ refl);
}
