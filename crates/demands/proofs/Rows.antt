-- What is promised of rows and tables, in the demands' words. Assumes nothing.
use Prim.Native.Nat.{ℕ, ◌<◌, ◌≤◌}
use native.Mathlib.Omega.{arith}
use mathlib.Core.Path.{◌≡◌, refl, ap, sym, subst, ◌∙◌}
use mathlib.Core.List.{List, [], map, flatten}
use mathlib.Core.Bool.{Bool, true, false}
use lib.ListN.{length, take, drop}
use lib.Dec.{ltb}
use lib.Seq.{take_at, drop_at}
use borrow.Author.Tests.{le-ltb, ltb-true, ltb-false, lt-ltb}
use Rattle.search.specs.Choice.{◌when◌else◌}
use Rattle.search.proofs.Choice.{when_yes, when_no, when_cases}
use Rattle.table.specs.Limits.{max_chains}
use Rattle.table.specs.Record.{form_at}
use Rattle.table.specs.Bytes.{word, bytes_of}
use Rattle.table.specs.Fault.{mark_of, end_fault}
use Rattle.table.specs.Find.{row_of, rows, find_of, used}
use Rattle.table.specs.Place.{place_of, length_of}
use Rattle.table.specs.Read.{Reading, empty, unless, start, by_verdict, records, limit_of, read_table, table_of}
use Rattle.table.specs.declared.Part.{Part}
use Rattle.table.specs.declared.Row.{Row}
use Rattle.table.specs.Refusal.{Verdict}
use Rattle.std.specs.declared.result.Result.{Result}
use Rattle.std.specs.declared.result.Result.TheVariants.{Ok, Err}
use Rattle.table.specs.declared.refusal.Refusal.{Refusal}
use Rattle.table.specs.declared.refusal.Refusal.TheVariants.{BadChainCount, NoChain, BufferShort}
use Rattle.table.proofs.Accepted.{accepted-short}
use Rattle.slices.specs.Locate.{record_in, located_of}
use Rattle.slices.specs.Stored.{record_of}
use Rattle.writing.specs.Rows.{table_bytes, cleared}
use Rattle.writing.specs.Write.{Written, verdict_on, written_of}
use Rattle.writing.proofs.Promises as laws
use Rattle.writing.proofs.Refusals.{rows-refusal}
use Rattle.writing.proofs.Again.{table-again}
use Rattle.demands.specs.Chains.{IsTable, Has, record_bytes}
use Rattle.demands.specs.Rows.{RefusedFor, RowsAndTables}

-- The answers of a write

data Cases (room : ℕ) (rs : List Row) : Written → Type 0 where
  rule : (n : Refusal) (place : ℕ) → verdict_on rs ≡ Err (n, place) → Cases room rs (Err n)
  no_room : verdict_on rs ≡ Ok tt → room < length (table_bytes rs) → Cases room rs (Err BufferShort)
  fits : verdict_on rs ≡ Ok tt → length (table_bytes rs) ≤ room → Cases room rs (Ok (length (table_bytes rs)))

cases : (room : ℕ) (rs : List Row) → Cases room rs (written_of room rs)
unfolding written_of
cases room rs = by (verdict_on rs) refl
  where
    by : (v : Verdict) → verdict_on rs ≡ v → Cases room rs (by_verdict Err v (Err BufferShort when ltb room (length (table_bytes rs)) else Ok (length (table_bytes rs))))
    by (Ok u) e = when_cases (Cases room rs) (ltb room (length (table_bytes rs)))
        (λ f. Cases.no_room e (ltb-true room (length (table_bytes rs)) f)) (λ f. Cases.fits e (ltb-false room (length (table_bytes rs)) f))
    by (Err f) e = Cases.rule f.0 f.1 e

pub used-says : (room : ℕ) (rs : List Row) (n : ℕ) → written_of room rs ≡ Ok n → (verdict_on rs ≡ Ok tt) × (length (table_bytes rs) ≤ room) × (n ≡ length (table_bytes rs))
used-says room rs n e = by n (subst (Cases room rs) e (cases room rs))
  where
    by : (n : ℕ) → Cases room rs (Ok n) → (verdict_on rs ≡ Ok tt) × (length (table_bytes rs) ≤ room) × (n ≡ length (table_bytes rs))
    by n (Cases.fits a l) = (a, l, refl)

refused_says : (room : ℕ) (rs : List Row) (n : Refusal) → written_of room rs ≡ Err n → RefusedFor room rs n
refused_says room rs n e = by n (subst (Cases room rs) e (cases room rs))
  where
    by : (n : Refusal) → Cases room rs (Err n) → RefusedFor room rs n
    by n (Cases.rule m place f) = RefusedFor.rule f
    by n (Cases.no_room a l) = RefusedFor.no_room a l refl

-- the answer where no rule is broken
abbrev fitted : ℕ → List Row → Written
fitted room rs = Err BufferShort when ltb room (length (table_bytes rs)) else Ok (length (table_bytes rs))

by_verdict_lem : (room : ℕ) (rs : List Row) {v : Verdict} → verdict_on rs ≡ v → written_of room rs ≡ by_verdict Err v (fitted room rs)
unfolding written_of
by_verdict_lem room rs e = ap (λ (v : Verdict). by_verdict Err v (fitted room rs)) e

pub refused-given : (room : ℕ) (rs : List Row) (n : Refusal) → RefusedFor room rs n → written_of room rs ≡ Err n
refused-given room rs n (RefusedFor.rule e) = by_verdict_lem room rs e
refused-given room rs n (RefusedFor.no_room a l e) =
    subst (λ (q : Refusal). written_of room rs ≡ Err q) (sym e)
    (by_verdict_lem room rs a ∙ when_yes {A = Written} (Err BufferShort) (Ok (length (table_bytes rs))) (lt-ltb room (length (table_bytes rs)) l))

pub used-given : (room : ℕ) (rs : List Row) → verdict_on rs ≡ Ok tt → length (table_bytes rs) ≤ room → written_of room rs ≡ Ok (length (table_bytes rs))
used-given room rs a l = by_verdict_lem room rs a ∙ when_no {A = Written} (Err BufferShort) (Ok (length (table_bytes rs))) (le-ltb room (length (table_bytes rs)) l)

-- the answer goes by the bytes alone
past-counts : (room : ℕ) (rs : List Row) → written_of room (map cleared rs) ≡ written_of room rs
unfolding written_of verdict_on
past-counts room rs =
    ap (λ (l : List ℕ). by_verdict Err (records max_chains l 0 empty).verdict (Err BufferShort when ltb room (length l) else Ok (length l))) (laws.table-past rs)

-- the reader, where its length check changes nothing
reads : (rs : List Row) → length (table_bytes rs) ≤ limit_of (form_at (table_bytes rs) 0) → (read_table (table_bytes rs)).verdict ≡ verdict_on rs
unfolding verdict_on
reads rs h = ap (λ (r : Reading). r.verdict) (laws.verdict_short rs h)

-- the rows of an accepted table
module _ {s : List ℕ} (h : IsTable s) where
  abbrev of : List Row
  of = rows (table_of s)

  same : table_bytes of ≡ s
  same = table-again s h.bytes h.accepted

  right : verdict_on of ≡ Ok tt
  right = sym (reads of (rw same (accepted-short s h.accepted))) ∙ ap (λ (l : List ℕ). (read_table l).verdict) same ∙ h.accepted

  -- the record that was found in it
  located : (id : ℕ) (part : Part) → located_of s id ≡ Ok part → Has s id × (take part.length (drop part.offset s) ≡ record_bytes s id)
  unfolding located_of record_in record_of
  located id part e = by (used (table_of s) id) refl (sym (ap (λ (v : Verdict). by_verdict Err v (record_in (table_of s) id)) h.accepted) ∙ e)
    where
      by : (t : Bool) → used (table_of s) id ≡ t → record_in (table_of s) id ≡ Ok part → Has s id × (take part.length (drop part.offset s) ≡ record_bytes s id)
      by true u q =
          let f = sym (when_yes {A = Result Part Refusal} _ (Err NoChain) u) ∙ q in
          let same : record { offset = place_of (table_of s) (find_of (table_of s) id); length = length_of (row_of (table_of s) (find_of (table_of s) id)) } ≡ part = cc in
          (record { table = h; there = ltb-true _ _ u }, subst (λ (p : Part). take p.length (drop p.offset s) ≡ record_bytes s id) same refl)
      by false u q = let f = sym (when_no {A = Result Part Refusal} _ (Err NoChain) u) ∙ q in let z : ◌≡◌ {A = ℕ} 0 1 = cc in absurd (omega arith)

-- the bytes of no row are an end record that counts none
no_row : verdict_on [] ≡ Err (BadChainCount, 2)
unfolding verdict_on table_bytes bytes_of records start end_fault mark_of ◌when◌else◌ unless flatten word
no_row = refl

pub rows-and-tables : RowsAndTables
unfolding located_of record_in
rows-and-tables = record {
  table = λ {rs} {room} {n} w. let u = used-says room rs n w.answered in
      (record { bytes = laws.table-bytes rs; accepted = laws.read rs w.fit u.0 }, u.2, omega (arith, u.1, u.2));
  written = λ {rs} {buffer} {after} {n} w. let u = used-says (length buffer) rs n (sym w.answers) in
      let e = w.leaves ∙ when_yes _ _ refl in
      (rw e (take_at (table_bytes rs) (drop (length (table_bytes rs)) buffer) n (sym u.2)), rw e (drop_at (table_bytes rs) (drop (length (table_bytes rs)) buffer) n (sym u.2) ∙ rw u.2));
  back = λ {rs} {room} {n} w. laws.read_back rs w.fit (used-says room rs n w.answered).0;
  again = same;
  always = λ h room l. used-given room (of h) (right h) (rw (same h) l) ∙ ap (λ (l : List ℕ). Ok (length l)) (same h);
  past = λ rs. (laws.table-past rs, λ room. past-counts room rs);
  refused = λ rs room n. (refused_says room rs n, refused-given room rs n);
  reader = reads;
  short = laws.short;
  numbers = λ rs f e. rows-refusal rs _ (laws.judged rs f) e;
  none = λ room. refused-given room [] BadChainCount (RefusedFor.rule no_row);
  record_found = λ {s} {id} h. (_, ap (λ (v : Verdict). by_verdict Err v (record_in (table_of s) id)) h.table.accepted ∙ when_yes _ (Err NoChain) (lt-ltb _ _ h.there));
  record_there = λ {s} {id} {part} h e. located h id part e;
}
