-- What a change does to the records: a record over itself nothing; an accepted one makes one record another, and can be
-- changed back. Assumes nothing.
use Prim.Native.Nat.{ℕ, ◌+◌, ◌<◌, ◌≤◌}
use native.Mathlib.Omega.{arith}
use mathlib.Core.Path.{◌≡◌, refl, ap, sym, subst, ◌∙◌}
use mathlib.Core.List.{List, [], ◌++◌, flatten}
use mathlib.Core.Bool.{false, not}
use lib.ListN.{length, get_or, drop, set, length-set}
use lib.Seq.{get_or-set_same, get_or-set_other, set-get_or, set-set}
use lib.Dec.{eqb}
use borrow.Author.Tests.{le-ltb, eq-eqb, eqb-true, not-false}
use Rattle.std.specs.declared.result.Result.TheVariants.{Ok}
use Rattle.table.specs.Bytes.{Bytes}
use Rattle.table.specs.Record.{form_at, id_at, head_length, length_at}
use Rattle.table.specs.Find.{row_of, rows}
use Rattle.table.specs.Fault.{mark_of, is_chain}
use Rattle.table.specs.Read.{accepted, read_table, table_of}
use Rattle.table.specs.Place.{length_of, place_of}
use Rattle.table.specs.declared.Table.{Table}
use Rattle.table.proofs.Firsts.{none_or}
use Rattle.table.proofs.Marks.{chain-told}
use Rattle.saving.specs.Save.{read_fault, seen_of, cut, unfit, result_of}
use Rattle.slices.specs.Stored.{record_of}
use Rattle.slices.specs.Slices.{splice}
use Rattle.slices.proofs.Sameness.{same-yes, same_true}
use Rattle.slices.proofs.Splices.{splice-same}
use Rattle.saving.proofs.Verdicts.{read-accepted}
use Rattle.slices.proofs.Stored.{record_is}
use Rattle.saving.proofs.Seen.{seen_le, seen-is, seen_by, seen_record}
use Rattle.saving.proofs.Faults.{NoFault}
use Rattle.slices.proofs.Parts.{Whole, Parts, row_in, map-set}
use Rattle.slices.proofs.Parsed.{parts-rows}
use Rattle.slices.proofs.Records.{records_from, length-records, records-at, record_whole, record_id, record_alone, parts-of, parts-count, parts_record, parts-put}
use Rattle.saving.proofs.After.{bytes-result}

-- a new record that is fit is whole, and bears the id
pub fit-whole : (new : List ℕ) (id : ℕ) → unfit new id ≡ false → Whole new × (id_at new 0 ≡ id)
unfolding unfit
fit-whole new id e =
    let e3 = none_or _ (not (eqb (id_at new 0) id)) e in
    let e2 = none_or _ (not (eqb (length new) (length_at new 0))) e3.0 in
    let e1 = none_or (cut new) (not (is_chain (mark_of (form_at new 0)))) e2.0 in (
      record { mark = chain-told _ (not-false _ e1.1); long = eqb-true _ _ (not-false _ e2.1) },
      eqb-true _ _ (not-false _ e3.1),
    )

-- and the other way round
pub whole-fit : (r : List ℕ) (id : ℕ) → Whole r → id_at r 0 ≡ id → unfit r id ≡ false
unfolding unfit
whole-fit r id w e = rw (le-ltb (length r) (head_length (form_at r 0)) (omega (arith, w.long)), w.mark, eq-eqb _ _ w.long, eq-eqb _ _ e)

-- a stored record over itself
-- the result by its parts
result-splice : (s old new : List ℕ) → result_of s old new ≡ splice s (place_of (table_of s) (seen_of s old)) (length_of (row_of (table_of s) (seen_of s old))) new
unfolding result_of
result-splice s old new = refl

module _ (s : List ℕ) (none : read_fault s ≡ Ok tt) where
  module _ (chain : ℕ) (l : chain < (table_of s).count) where
    own-seen : seen_of s (record_of s chain) < (table_of s).count
    own-seen = omega (arith, l, seen_by s (record_of s chain) chain l refl)

    own-there : record_of s (seen_of s (record_of s chain)) ≡ record_of s chain
    own-there = seen_record s (record_of s chain) own-seen

    pub own-result : result_of s (record_of s chain) (record_of s chain) ≡ s
    own-result =
        let j = seen_of s (record_of s chain) in
        result-splice s (record_of s chain) (record_of s chain)
        ∙ ap (splice s (place_of (table_of s) j) (length_of (row_of (table_of s) j))) (sym own-there ∙ record_is s (table_of s) (read-accepted s none) j)
        ∙ splice-same s (place_of (table_of s) j) (length_of (row_of (table_of s) j))

  pub own-passes : Bytes s → (chain : ℕ) (l : chain < (table_of s).count) (room : ℕ) → length s ≤ room → NoFault room s (record_of s chain) (record_of s chain)
  own-passes bytes chain l room h =
      let read = read-accepted s none in
      let j = seen_of s (record_of s chain) in
      record {
        table = none;
        seen = λ z. omega (arith, z, own-seen chain l);
        fit = subst (λ (q : List ℕ). unfit q (row_of (table_of s) j).id ≡ false) (own-there chain l)
            (whole-fit (record_of s j) _ (record_whole s (table_of s) read bytes j (own-seen chain l)) (record_id s (table_of s) read bytes j (own-seen chain l)));
        fits = rw (own-result chain l) h;
        result = rw (own-result chain l) none;
      }

-- an accepted change
module _ (room : ℕ) (s old new : List ℕ) (p : NoFault room s old new) (bytes : Bytes s) (new-bytes : Bytes new) where
  abbrev t : Table
  t = table_of s

  abbrev chain : ℕ
  chain = seen_of s old

  abbrev result : List ℕ
  result = result_of s old new

  pub was_read : read_table s ≡ accepted t
  was_read = read-accepted s p.table

  is_read : read_table result ≡ accepted (table_of result)
  is_read = read-accepted result p.result

  pub is_seen : chain < t.count
  is_seen = omega (arith, seen_le s old, p.seen)

  pub seen-old : record_of s chain ≡ old
  seen-old = seen_record s old is_seen

  new-whole : Whole new
  new-whole = (fit-whole new _ p.fit).0

  new-id : id_at new 0 ≡ (row_of t chain).id
  new-id = (fit-whole new _ p.fit).1

  -- the result is the old records but for one
  abbrev rs : List (List ℕ)
  rs = records_from s t.count 0

  abbrev end : List ℕ
  end = drop (place_of t t.count) s

  parts : Parts result (set rs chain new) end
  unfolding result_of
  parts = parts-put s t was_read bytes rs end (parts-of s t was_read bytes) chain is_seen new new-whole

  result-bytes : Bytes result
  result-bytes = bytes-result s old new bytes new-bytes

  pub count_kept : (table_of result).count ≡ t.count
  count_kept = parts-count result (table_of result) is_read result-bytes (set rs chain new) end parts ∙ simp (length-set, length-records)

  stored_record : (j : ℕ) → j < t.count → get_or rs j [] ≡ record_of s j
  stored_record j h = let e : 0 + j ≡ j = omega arith in records-at s t.count 0 j h ∙ rw e

  record_then : (j : ℕ) → j < t.count → record_of result j ≡ get_or (set rs chain new) j []
  record_then j h = parts_record result (table_of result) is_read result-bytes (set rs chain new) end parts j (omega (arith, count_kept))

  pub record_changed : record_of result chain ≡ new
  record_changed = record_then chain is_seen ∙ get_or-set_same rs chain new [] (omega (arith, is_seen, length-records s t.count 0))

  pub record_kept : (j : ℕ) → j < t.count → (j ≡ chain → ⊥) → record_of result j ≡ record_of s j
  record_kept j h n = record_then j h ∙ get_or-set_other rs chain j new [] n ∙ stored_record j h

  pub rows-kept : rows (table_of result) ≡ set (rows t) chain (row_in new)
  rows-kept =
      parts-rows result (table_of result) is_read (set rs chain new) end parts
      ∙ map-set row_in rs chain new
      ∙ ap (λ (l : List _). set l chain (row_in new)) (sym (parts-rows s t was_read rs end (parts-of s t was_read bytes)))

  -- the old record in the new one's place again
  old-whole : Whole old
  old-whole = subst Whole seen-old (record_whole s t was_read bytes chain is_seen)

  old_id : id_at old 0 ≡ (row_of t chain).id
  old_id = ap (λ (r : List ℕ). id_at r 0) (sym seen-old) ∙ record_id s t was_read bytes chain is_seen

  id-kept : (row_of (table_of result) chain).id ≡ (row_of t chain).id
  id-kept =
      sym (record_id result (table_of result) is_read result-bytes chain (omega (arith, is_seen, count_kept)))
      ∙ ap (λ (r : List ℕ). id_at r 0) record_changed ∙ new-id

  new-seen : seen_of result new ≡ chain
  new-seen =
      let there : chain < (table_of result).count = omega (arith, is_seen, count_kept) in
      seen-is result new chain there (same-yes _ new record_changed)
      (λ j l e. let f = same_true _ new e ∙ sym record_changed in
      omega (arith, l, record_alone result (table_of result) is_read result-bytes j chain (omega (arith, l, there)) there (ap (λ (r : List ℕ). id_at r 0) f)))

  pub result-back : result_of result new old ≡ s
  result-back =
      let u = table_of result in
      let same-again : set (set rs chain new) chain old ≡ rs = set-set rs chain new old ∙ ap (set rs chain) (sym (stored_record chain is_seen ∙ seen-old)) ∙ set-get_or rs chain [] in
      result-splice result new old
      ∙ ap (λ (j : ℕ). splice result (place_of u j) (length_of (row_of u j)) old) new-seen
      ∙ (parts-put result u is_read result-bytes (set rs chain new) end parts chain (omega (arith, is_seen, count_kept)) old old-whole).bytes
      ∙ ap (λ (l : List (List ℕ)). flatten l ++ end) same-again
      ∙ sym (parts-of s t was_read bytes).bytes

  -- and it is accepted there, wherever the table had room
  pub back_passes : (more : ℕ) → length s ≤ more → NoFault more result new old
  back_passes more h = record {
    table = p.result;
    seen = λ z. omega (arith, z, new-seen, is_seen, count_kept);
    fit = rw new-seen (whole-fit old (row_of (table_of result) chain).id old-whole (old_id ∙ sym id-kept));
    fits = rw result-back h;
    result = rw result-back p.table;
  }
