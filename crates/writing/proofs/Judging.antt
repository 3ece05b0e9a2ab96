-- What is judged of rows, one after the other, is what the reader says of their bytes. Assumes nothing.
use Prim.Native.Nat.{ℕ, zero, suc, ◌+◌, ◌-◌, ◌<◌, ◌≤◌}
use native.Mathlib.Omega.{arith}
use mathlib.Core.Path.{◌≡◌, refl, ap, sym, subst, ◌∙◌}
use mathlib.Core.List.{List, [], ◌∷◌, ◌++◌, map, flatten, append_assoc}
use mathlib.Core.Bool.{Bool, true, false}
use mathlib.Core.Logic.{◌⊎◌, inl, inr, ⊎_elim}
use borrow.Author.Tests.{le-ltb, eqb-false, eq-eqb, ne_eqb, not-true}
use lib.Dec.{eqb}
use lib.ListN.{length, take, drop, length-append, length-drop}
use lib.Seq.{drop-drop, drop_at, take-nil}
use Rattle.search.specs.Choice.{◌when◌else◌}
use Rattle.search.specs.Lists.{All}
use Rattle.search.proofs.Choice.{when_yes, when_no, true-not-false, true_or_false, lt_or_le}
use Rattle.table.specs.Limits.{max_chains, max_distances, max_tasks}
use Rattle.table.specs.Bytes.{word}
use Rattle.table.specs.Record.{form_at, count_place, after_end, end_record, length_at, row_at}
use Rattle.table.specs.Fault.{mark_of, chain_fault, end_fault}
use Rattle.table.specs.Read.{Reading, empty, plus, unless, refusal, accepted, records}
use Rattle.table.specs.declared.Row.{Row}
use Rattle.table.specs.declared.Table.{Table}
use Rattle.table.specs.declared.Mark.TheVariants.{Chain, End, Unknown}
use Rattle.std.specs.declared.result.Result.TheVariants.{Ok, Err}
use Rattle.table.specs.Refusal.{Verdict, answering}
use Rattle.table.specs.declared.refusal.Refusal.{Refusal}
use Rattle.table.specs.declared.refusal.Refusal.TheVariants.{BadMark, BadChainCount}
use Rattle.table.proofs.Faultless.{beside-other, beside-full, beside-is}
use Rattle.table.proofs.Steps.{records-mark, records-refused, records-chain}
use Rattle.table.proofs.Marks.{mark_number}
use Rattle.table.proofs.Words.{end-length, end-mark-word, end-count}
use Rattle.writing.specs.Rows.{is_form, form_mark, row_bytes, table_bytes, cleared, Typed}
use Rattle.writing.specs.Write.{verdict_on}
use Rattle.writing.specs.Code.Tally.{Refused, no_form, form_wrong, first_refusal, row_refusal, unjudged, counted, Judgement, judged_with, judged_all, refusal_of, Fits, most_judged, JudgedRows}
use Rattle.writing.specs.declared.judged.Tally.{Tally}
use Rattle.writing.proofs.Forms.{mark-own, mark-none, form-chain}
use Rattle.writing.proofs.Faults.{row_counts, is_some, form-first, form-later, form-on, form_is}
use Rattle.writing.proofs.Ids.{Holds, held-wrong, holds-none, holds_more}
use Rattle.writing.proofs.Pieces.{row-length}
use Rattle.writing.proofs.Fields.{Stored, word-there, mark-stored, row-there, stored}
use Rattle.writing.proofs.Verdicts.{Says, says-unless, chain-says, row_read, length-read}

-- One row more

module _ (j : Tally) (r : Row) where
  with-other : form_wrong j.form r.form ≡ true → judged_with j r ≡ Err BadMark
  unfolding judged_with
  with-other e = when_yes _ _ e

  module _ (form : form_wrong j.form r.form ≡ false) where
    with-full : j.count ≡ max_chains → judged_with j r ≡ Err BadChainCount
    unfolding judged_with
    with-full e = when_no _ _ form ∙ when_yes _ _ (eq-eqb j.count max_chains e)

    module _ (few : j.count < max_chains) where
      on : judged_with j r ≡ answering (row_refusal j r) (counted j r)
      unfolding judged_with
      on = when_no _ _ form ∙ when_no _ _ (ne_eqb j.count max_chains (λ e. omega arith))

      with-right : row_refusal j r ≡ Ok tt → judged_with j r ≡ Ok (counted j r)
      with-right e = on ∙ ap (λ (n : Refused). answering n (counted j r)) e

      -- so the row's fault decides, or the rows after it
      refusal-on : (rs : List Row) → first_refusal (row_refusal j r) (refusal_of (judged_all (Ok (counted j r)) rs)) ≡ refusal_of (judged_all (judged_with j r) rs)
      unfolding judged_all
      refusal-on rs = by (row_refusal j r) ∙ ap (λ (v : Judgement). refusal_of (judged_all v rs)) (sym on)
        where
          by : (n : Refused) → first_refusal n (refusal_of (judged_all (Ok (counted j r)) rs)) ≡ refusal_of (judged_all (answering n (counted j r)) rs)
          by (Ok u) = refl
          by (Err n) = refl

-- a fault stays
fault-stays : (v : Judgement) (rs : List Row) {n : Refusal} → v ≡ Err n → refusal_of (judged_all v rs) ≡ Err n
unfolding judged_all
fault-stays v rs e = rw e

-- the form of the rows before `at` is that of the first record; no row is before the first byte
data Formed (s : List ℕ) (at form : ℕ) : Type 0 where
  none : at ≡ 0 → form ≡ no_form → Formed s at form
  some : form_at s 0 ≡ form → is_form form ≡ true → Formed s at form

-- so the reader finds a wrong form where the values say so
module _ (s : List ℕ) (at : ℕ) (j : Tally) (r : Row) (mark : word 2 s at ≡ form_mark r.form) where
  -- a form that is not wrong: there is such a one, and it is that of the first record
  right-form : Formed s at j.form → form_wrong j.form r.form ≡ false → (is_form r.form ≡ true) × (form_at s at ≡ form_at s 0)
  right-form (Formed.none z e) w = (form_is j.form r.form (inl e) w, ap (form_at s) z)
  right-form (Formed.some e k) w =
      let is = form_is j.form r.form (inr k) w in
      (is, mark ∙ mark-own r.form is ∙ form-on j.form r.form (is_some j.form k) w ∙ sym e)

  -- a wrong one
  module _ (t : Table) (left : ℕ) (there : at + 2 ≤ length s) where
    no_form_lem : is_form r.form ≡ false → records left s at t ≡ refusal BadMark at
    unfolding mark_of ◌when◌else◌
    no_form_lem e = records-mark s at t there left Unknown (ap mark_of (mark ∙ mark-none r.form e)) (λ z. let y : ◌≡◌ {A = ℕ} 0 1 = cc in omega arith)

    other-form : is_form r.form ≡ true → Formed s at j.form → form_wrong j.form r.form ≡ true → records left s at t ≡ refusal BadMark at
    other-form is (Formed.none z e) w = absurd (true-not-false is (not-true _ (sym (form-first j.form r.form e) ∙ w)))
    other-form is (Formed.some e k) w =
        let own = mark ∙ mark-own r.form is in
        let other = eqb-false r.form j.form (not-true _ (sym (form-later j.form r.form (is_some j.form k)) ∙ w)) in
        records-refused s at t there (ap mark_of own ∙ form-chain r.form is) left (beside-other s at (form_at s 0) t (λ z. other (sym own ∙ z ∙ e)))

    wrong-form : Formed s at j.form → form_wrong j.form r.form ≡ true → records left s at t ≡ refusal BadMark at
    wrong-form k w = ⊎_elim (λ e. other-form e k w) (λ e. no_form_lem e) (true_or_false (is_form r.form))

module _ (s : List ℕ) (total : ℕ) where
  -- the end record, after as many rows as it says
  end-says : (at : ℕ) (t : Table) → at ≤ length s → drop at s ≡ end_record total → t.count ≡ total → total ≤ max_chains
      → Says (records (max_chains - t.count) s at t).verdict (Err BadChainCount when eqb total 0 else Ok tt)
  unfolding end_fault mark_of ◌when◌else◌ unless
  end-says at t in-s d e few =
      let long : length s ≡ at + 4 = omega (arith, length-drop at s, ap length d, end-length total) in
      let mark : word 2 s at ≡ 20037 = word-there 2 s (end_record total) at 0 at d (omega arith) ∙ end-mark-word total in
      let count : word 2 s (at + 2) ≡ total = word-there 2 s (end_record total) at 2 (at + 2) d refl ∙ end-count total (omega arith) in
      let end = records-mark s at t (omega arith) (max_chains - t.count) End (ap mark_of mark) (λ z. omega (arith, ap mark_number z)) in
      subst (λ (r : Reading). Says r.verdict (Err BadChainCount when eqb total 0 else Ok tt)) (sym end)
      (rw (le-ltb (length s) (after_end at) (omega arith), e, count, eq-eqb total total refl, eq-eqb (length s) (after_end at) long) (by _ (eqb total 0)))
    where
      by : (u : Table) (b : Bool) → Says (unless refusal (Err (BadChainCount, count_place at) when b else Ok tt) (accepted u)).verdict (Err BadChainCount when b else Ok tt)
      by u true = Says.fault BadChainCount (count_place at)
      by u false = Says.none

  -- a stored row, its rows before without a fault
  module _ (at : ℕ) (t : Table) (j : Tally) (r : Row) (st : Stored s at r) (f : Typed r) (keeps : Holds j.ids j.count j.tasks t) where
    row-says : Says (chain_fault s at t) (row_refusal j r)
    row-says = chain-says s at r st f j t (held-wrong t r.id keeps) (sym keeps.tasks)

    -- and without one of its own
    module _ (right : row_refusal j r ≡ Ok tt) where
      read-row : row_at s at ≡ cleared r
      read-row = let c = row_counts j r right in row_read s at r st f c.1 c.2

      read_length : length_at s at ≡ length (row_bytes r)
      read_length = let c = row_counts j r right in length-read s at r st f c.1 c.2 ∙ sym (row-length r)

      keeps_on : j.count < max_chains → Holds (counted j r).ids (counted j r).count (counted j r).tasks (plus t (row_at s at))
      keeps_on few = rw read-row (holds_more t (cleared r) few keeps)

  -- the rows left, after those judged without a fault
  rows-says : (rs : List Row) (m at : ℕ) (t : Table) (j : Tally) → at ≤ length s → drop at s ≡ flatten (map row_bytes rs) ++ end_record total → Fits (Ok j) (take m rs)
      → m + j.count ≡ most_judged → j.count ≤ max_chains → j.count + length rs ≡ total → Formed s at j.form → Holds j.ids j.count j.tasks t
      → Says (records (max_chains - t.count) s at t).verdict (refusal_of (judged_all (Ok j) (take m rs)))
  unfolding judged_all Fits flatten
  rows-says [] m at t j in-s d f e few all forms keeps =
      let c : j.count ≡ total = omega (arith, all) in
      subst (Says (records (max_chains - t.count) s at t).verdict)
      (ap (λ (n : ℕ). Err BadChainCount when eqb n 0 else Ok tt) (sym c) ∙ ap (λ (l : List Row). refusal_of (judged_all (Ok j) l)) (sym (take-nil m)))
      (end-says at t in-s d (sym keeps.count ∙ c) (omega arith))
  rows-says (r ∷ rs) zero at t j in-s d f e few all forms keeps = absurd (omega (arith, e))
  rows-says (r ∷ rs) (suc m) at t j in-s d f e few all forms keeps =
      let post = flatten (map row_bytes rs) ++ end_record total in
      let d' : drop at s ≡ row_bytes r ++ post = d ∙ append_assoc (row_bytes r) (flatten (map row_bytes rs)) (end_record total) in
      let mark = mark-stored s at r post d' in
      let here : at + 2 ≤ length s = omega (arith, row-there s at r post d' in-s) in
      let found = refusal_of (judged_all (judged_with j r) (take m rs)) in
      ⊎_elim
      (λ w.
      subst (λ (x : Reading). Says x.verdict found) (sym (wrong-form s at j r mark t (max_chains - t.count) here forms w))
      (subst (Says (Err (BadMark, at))) (sym (fault-stays (judged_with j r) (take m rs) (with-other j r w))) (Says.fault BadMark at)))
      (λ w.
      let form = right-form s at j r mark forms w in
      let st = stored s at r post d' f.0 form.0 in-s in
      let chain : mark_of (word 2 s at) ≡ Chain = ap mark_of st.form ∙ form-chain r.form form.0 in
      ⊎_elim
      (λ l.
      let room : t.count < max_chains = rw (← keeps.count) l in
      let more = records (max_chains - (t.count + 1)) s (at + length_at s at) (plus t (row_at s at)) in
      let next = records-chain s at t here chain room ∙ ap (λ (v : Verdict). unless refusal v more) (beside-is s at (form_at s 0) t form.1 (λ z. omega (arith, room, z))) in
      subst (λ (x : Reading). Says x.verdict found) (sym next)
      (subst (Says _) (refusal-on j r w l (take m rs)) (says-unless _ (row-says at t j r st f.0 keeps) (λ z.
      let size = read_length at t j r st f.0 keeps z in
      let rest : drop (at + length_at s at) s ≡ post = rw (size, ← drop-drop (length (row_bytes r)) at s, d') (drop_at (row_bytes r) post (length (row_bytes r)) refl) in
      let fits = subst (λ (v : Judgement). Fits v (take m rs)) (with-right j r w l z) f.1 in
      rows-says rs m (at + length_at s at) (plus t (row_at s at)) (counted j r) (omega (arith, st.there, size, row-length r)) rest fits (omega (arith, e)) (omega (arith, l)) (omega (arith, all))
      (Formed.some (sym form.1 ∙ st.form) form.0) (keeps_on at t j r st f.0 keeps z l)))))
      (λ l.
      let full : j.count ≡ max_chains = omega arith in
      subst (λ (x : Reading). Says x.verdict found) (sym (records-refused s at t here chain (max_chains - t.count) (beside-full s at (form_at s 0) t form.1 (sym keeps.count ∙ full))))
      (subst (Says (Err (BadChainCount, at))) (sym (fault-stays (judged_with j r) (take m rs) (with-full j r w full))) (Says.fault BadChainCount at)))
      (lt_or_le j.count max_chains))
      (true_or_false (form_wrong j.form r.form))

-- so it is of all rows
pub rows_verdict : (rs : List Row) (v : Judgement) → JudgedRows rs v → Says (verdict_on rs) (refusal_of v)
unfolding verdict_on table_bytes
rows_verdict rs v h =
    subst (λ (k : Judgement). Says (verdict_on rs) (refusal_of k)) (sym h.is)
    (rows-says (table_bytes rs) (length rs) rs most_judged 0 empty unjudged (omega arith) refl h.fits refl (omega arith) (omega arith) (Formed.none refl refl) holds-none)

-- Good rows: how many they are, how long their records, their form, and each one's counts

pub record Counts (r : Row) : Type 0 where
  pub form : is_form r.form ≡ true
  pub some : 1 ≤ r.listed
  pub listed : r.listed ≤ max_distances
  pub tasks : r.tasks ≤ max_tasks

pub record GoodRows (rs : List Row) (j v : Tally) : Type 0 where
  pub few : j.count + length rs ≤ max_chains
  pub count : v.count ≡ j.count + length rs
  pub bytes : v.bytes ≡ j.bytes + length (flatten (map row_bytes rs))
  pub form : (j.form ≡ no_form → ⊥) → v.form ≡ j.form
  pub forms : All (λ r. r.form ≡ v.form) rs
  pub rows : All Counts rs

-- what is known of good rows
abbrev known : Judgement → Tally
known (Ok j) = j
known (Err n) = unjudged

good-rows : (rs : List Row) (m : ℕ) (j v : Tally) → m + j.count ≡ most_judged → j.count ≤ max_chains → (j.form ≡ no_form) ⊎ (is_form j.form ≡ true)
    → judged_all (Ok j) (take m rs) ≡ Ok v → GoodRows rs j v
unfolding judged_all flatten
good-rows [] m j v e few is z =
    subst (GoodRows [] j) (ap known (sym (ap (judged_all (Ok j)) (take-nil m)) ∙ z))
    (record { few = omega arith; count = omega arith; bytes = omega arith; form = λ h. refl; forms = tt; rows = tt })
good-rows (r ∷ rs) zero j v e few is z = absurd (omega (arith, e))
good-rows (r ∷ rs) (suc m) j v e few is z = ⊎_elim
    (λ w. absurd (faulty (with-other j r w)))
    (λ w. ⊎_elim
    (λ l. by w l (λ y. good-rows rs m (counted j r) v (omega (arith, e)) (omega (arith, l)) (inr (form_is j.form r.form is w)) y) (row_refusal j r) refl)
    (λ l. absurd (faulty (with-full j r w (omega arith))))
    (lt_or_le j.count max_chains))
    (true_or_false (form_wrong j.form r.form))
  where
    faulty : {n : Refusal} → judged_with j r ≡ Err n → ⊥
    faulty w = let y = sym (ap (λ (k : Judgement). judged_all k (take m rs)) w) ∙ z in let x : ◌≡◌ {A = ℕ} 0 1 = cc in omega arith

    by : (f : form_wrong j.form r.form ≡ false) (l : j.count < max_chains) → (judged_all (Ok (counted j r)) (take m rs) ≡ Ok v → GoodRows rs (counted j r) v)
        → (n : Refused) → row_refusal j r ≡ n → GoodRows (r ∷ rs) j v
    by f l rest (Err n) q = absurd (faulty (on j r f l ∙ ap (λ (k : Refused). answering k (counted j r)) q))
    by f l rest (Ok u) q =
        let w = with-right j r f l q in
        let there = form_is j.form r.form is f in
        let g = rest (sym (ap (λ (k : Judgement). judged_all k (take m rs)) w) ∙ z) in
        let c = row_counts j r q in
        let same = g.form (is_some r.form there) in
        record {
          few = omega (arith, g.few);
          count = omega (arith, g.count);
          bytes = omega (arith, g.bytes, length-append (row_bytes r) (flatten (map row_bytes rs)), row-length r);
          form = λ h. same ∙ form-on j.form r.form h f;
          forms = (sym same, g.forms);
          rows = (record { form = there; some = c.0; listed = c.1; tasks = c.2 }, g.rows);
        }

pub judged-good : (rs : List Row) (j : Tally) → JudgedRows rs (Ok j) → GoodRows rs unjudged j
judged-good rs j h = good-rows rs most_judged unjudged j refl (omega arith) (inl refl) (sym h.is)
