-- An accepted table is its records: what the reader makes of bytes that are records one after the other. Assumes nothing.
use Prim.Native.Nat.{ℕ, ◌+◌, ◌-◌, ◌<◌, ◌≤◌}
use native.Mathlib.Omega.{arith}
use native.Mathlib.Numerals.{add-one}
use mathlib.Core.Path.{◌≡◌, refl, ap, sym, subst, ◌∙◌}
use mathlib.Core.List.{List, [], ◌∷◌, ◌++◌, map, flatten, append_assoc, append-nil}
use mathlib.Core.Bool.{◌||◌}
use lib.ListN.{length, drop, length-append, length-drop, length-set, get_or-append}
use lib.Seq.{get_or-drop, drop-drop, drop_at, take-suc-set}
use lib.Dec.{eqb, ltb}
use Rattle.search.specs.Lists.{All}
use Rattle.search.proofs.Choice.{when_cases}
use Rattle.table.specs.Limits.{max_chains}
use Rattle.table.specs.Bytes.{word}
use Rattle.table.specs.Record.{form_at, length_at, row_at}
use Rattle.table.specs.Find.{rows}
use Rattle.table.specs.Fault.{mark_of, beside_fault, end_fault}
use Rattle.table.specs.Read.{empty, plus, refusal, accepted, unless, by_mark, records, limit_of, read_table}
use Rattle.table.specs.Read.{Reading}
use Rattle.table.specs.declared.Table.{Table}
use Rattle.table.specs.declared.Mark.{Mark}
use Rattle.table.specs.declared.Mark.TheVariants.{Chain, Task, End, Unknown}
use Rattle.table.specs.Refusal.{Verdict}
use Rattle.std.specs.declared.result.Result.TheVariants.{Ok, Err}
use Rattle.table.specs.declared.refusal.Refusal.TheVariants.{BadMark, BadChainCount}
use Rattle.table.proofs.Firsts.{not-accepted}
use Rattle.table.proofs.Faultless.{chain-right, BesideRight, beside-right}
use Rattle.table.proofs.Steps.{records-mark, records-refused, records-beside}
use Rattle.slices.proofs.Moved.{SameBytes, length_moved, mark-moved, row_moved}
use Rattle.slices.proofs.Parts.{Whole, Parts, row_in}

-- a record stands where the bytes go on with it: it is as long there as by itself, and what follows it goes on
module _ (s : List ℕ) (at : ℕ) (r rest : List ℕ) (d : drop at s ≡ r ++ rest) (w : Whole r) where
  pub stands : SameBytes s r at 0 (length_at r 0)
  unfolding SameBytes
  stands i h =
      let f : 0 + i ≡ i = omega arith in
      rw (f, ← get_or-drop at s i 0, d) (get_or-append r rest 0 i (omega (arith, w.long)))

  pub stands-long : length_at s at ≡ length r
  stands-long = length_moved s r at 0 stands ∙ sym w.long

  pub stands-rest : drop (at + length_at s at) s ≡ rest
  stands-rest = rw (stands-long, ← drop-drop (length r) at s, d) (drop_at r rest (length r) refl)

  pub stands-mark : mark_of (word 2 s at) ≡ Chain
  stands-mark = ap mark_of (mark-moved s r at 0 stands) ∙ w.mark

  pub stands-inside : at + length r + length rest ≡ length s
  stands-inside = omega (arith, length-drop at s, ap length d, length-append r rest, w.long)

-- no fault was found where what follows one was
unless-passed : (v : Verdict) (r : Reading) → (unless refusal v r).verdict ≡ Ok tt → (v ≡ Ok tt) × (unless refusal v r ≡ r)
unfolding unless
unless-passed (Ok u) r e = (refl, refl)
unless-passed (Err f) r e = absurd (not-accepted e)

module _ (s : List ℕ) where
  -- the rest of the reading, from the rows of t on
  abbrev go : ℕ → Table → Reading
  go at t = records (max_chains - t.count) s at t

  module _ (at : ℕ) (t : Table) (few : t.count ≤ max_chains) (there : at + 2 ≤ length s) (a : (go at t).verdict ≡ Ok tt) where
    passes : (r : Reading) → go at t ≡ r → r.verdict ≡ Ok tt
    passes r e = subst (λ (x : Reading). x.verdict ≡ Ok tt) e a

    -- a chain's mark: the chain was right beside those before it, and reading went on after it
    pub chain-read : mark_of (word 2 s at) ≡ Chain → BesideRight s at (form_at s 0) t × (t.count < max_chains) × (go at t ≡ go (at + length_at s at) (plus t (row_at s at)))
    chain-read m = by (beside_fault s at (form_at s 0) t) refl
      where
        by : (v : Verdict) → beside_fault s at (form_at s 0) t ≡ v → BesideRight s at (form_at s 0) t × (t.count < max_chains) × (go at t ≡ go (at + length_at s at) (plus t (row_at s at)))
        by (Ok tt) e =
            let r = beside-right s at (form_at s 0) t e in
            let room : t.count < max_chains = omega (arith, few, r.room) in
            (r, room, records-beside s at t there m e room)
        by (Err f) e = absurd (not-accepted (passes (refusal f.0 f.1) (records-refused s at t there m (max_chains - t.count) e)))

    -- any other: it was the end's, and nothing was added
    end_read : (mark_of (word 2 s at) ≡ Chain → ⊥) → (go at t).table ≡ t
    end_read c = by (mark_of (word 2 s at)) refl
      where
        marked : (m : Mark) → mark_of (word 2 s at) ≡ m → go at t ≡ by_mark at m (refusal BadChainCount at) (unless refusal (end_fault s at t) (accepted t))
        marked m e = records-mark s at t there (max_chains - t.count) m e (λ z. c (e ∙ z))

        by : (m : Mark) → mark_of (word 2 s at) ≡ m → (go at t).table ≡ t
        by Chain e = absurd (c e)
        by Task e = absurd (not-accepted (passes (refusal BadMark at) (marked Task e)))
        by End e = ap (λ (r : Reading). r.table) (marked End e ∙ (unless-passed (end_fault s at t) (accepted t) (passes _ (marked End e))).1)
        by Unknown e = absurd (not-accepted (passes (refusal BadMark at) (marked Unknown e)))

  -- four bytes are no chain
  ended : (at : ℕ) (t : Table) → length s ≡ at + 4 → t.count ≤ max_chains → (go at t).verdict ≡ Ok tt → (go at t).table ≡ t
  ended at t n few a =
      let there : at + 2 ≤ length s = omega arith in
      end_read at t few there a
      (λ m. omega (arith, (chain-right s at t (chain-read at t few there a m).0.chain).head.there))

  -- each record adds its row
  grown : (rs : List (List ℕ)) (at : ℕ) (t : Table) (e : List ℕ) → drop at s ≡ flatten rs ++ e → All Whole rs → length e ≡ 4
      → t.count ≤ max_chains → length t.row ≡ max_chains → (go at t).verdict ≡ Ok tt → rows (go at t).table ≡ rows t ++ map row_in rs
  unfolding flatten
  grown [] at t e d w n few l a = rw (ended at t (omega (arith, length-drop at s, ap length d)) few a) (sym (append-nil (rows t)))
  grown (r ∷ rs) at t e d w n few l a =
      let d' : drop at s ≡ r ++ (flatten rs ++ e) = d ∙ append_assoc r (flatten rs) e in
      let there : at + 2 ≤ length s = omega (arith, stands-inside s at r (flatten rs ++ e) d' w.0, w.0.long) in
      let c = chain-read at t few there a (stands-mark s at r (flatten rs ++ e) d' w.0) in
      let next = at + length_at s at in
      let more = plus t (row_at s at) in
      let on = grown rs next more e (stands-rest s at r (flatten rs ++ e) d' w.0) w.1 n (omega (arith, c.1)) (simp length-set l) (passes at t few there a (go next more) c.2) in
      let added : rows more ≡ rows t ++ (row_at s at ∷ []) = rw (add-one, take-suc-set t.row t.count (row_at s at) (omega (arith, l, c.1))) in
      ap (λ (x : Reading). rows x.table) c.2 ∙ on ∙ rw (added, row_moved s r at 0 (stands s at r (flatten rs ++ e) d' w.0), append_assoc)

-- reading starts without a row
pub started : (s : List ℕ) (t : Table) → read_table s ≡ accepted t → records max_chains s 0 empty ≡ accepted t
unfolding read_table
started s t =
    when_cases (λ r. r ≡ accepted t → records max_chains s 0 empty ≡ accepted t) (eqb (length s) 0 || ltb (limit_of (word 2 s 0)) (length s))
    (λ e f. absurd (not-accepted (ap (λ (r : Reading). r.verdict) f))) (λ e f. f)

-- the rows of an accepted table are those of its records
pub parts-rows : (s : List ℕ) (t : Table) → read_table s ≡ accepted t → (rs : List (List ℕ)) (e : List ℕ) → Parts s rs e → rows t ≡ map row_in rs
parts-rows s t read rs e p =
    let f = started s t read in
    ap (λ (r : Reading). rows r.table) (sym f) ∙ grown s rs 0 empty e p.bytes p.whole p.last (omega arith) refl (ap (λ (r : Reading). r.verdict) f)
