-- The bad combinations with no smaller bad one in them, kept one by one: every bad one so far has a kept part, so the kept ones
-- have as many uses as the bad ones. Assumes nothing.
use Prim.Native.Nat.{ℕ, ◌+◌, ◌≤◌, ◌<◌, min}
use mathlib.Core.Path.{◌≡◌, sym, ap, subst, ◌∙◌}
use mathlib.Core.Bool.{true, false}
use mathlib.Core.List.{List}
use mathlib.Core.Logic.{⊎_elim}
use native.Mathlib.Omega.{arith}
use native.Mathlib.Nat.{eq-or-lt_of_le}
use lib.ListN.{length, set, length-set}
use lib.Seq.{get_or-set_same, get_or-set_other}
use lib.Bits.{bit_and, and_self}
use borrow.Author.Tests.{eqb-true, eq-eqb}
use Rattle.search.proofs.Choice.{true-not-false, lt_or_le}
use Rattle.search.proofs.Find.{first_miss, first_hit}
use Rattle.packing.specs.Packing.{bit, usable, Reached}
use Rattle.packing.specs.Most.{most_uses, flagged}
use Rattle.packing.specs.Code.Engine.{nth, kept_inside, kept_part, Kept, HasRoom, MostUpTo}
use Rattle.packing.proofs.Bits.{inside-bits}
use Rattle.packing.proofs.Linear.{usable-some}
use Rattle.packing.proofs.Most.{most-greatest}
use Rattle.packing.proofs.Carry.{turned, turned-some, turned-sum, turned-total}
use Rattle.packing.proofs.Laws.{usable-bad, bad-usable, used-mono}
use Rattle.packing.proofs.Tries.{fewer-fit}

-- a kept part is found
part-found : (kept : List ℕ) (count x j : ℕ) → j < count → kept_inside kept x j ≡ true → kept_part kept count x < count
part-found kept count x j l e = ⊎_elim
    (λ h. h)
    (λ h. absurd (true-not-false e (first_miss (kept_inside kept x) 0 count j (omega arith) (omega arith))))
    (lt_or_le (kept_part kept count x) count)

-- the kept part that is found
part-is : (kept : List ℕ) (count x : ℕ) → kept_part kept count x < count → kept_inside kept x (kept_part kept count x) ≡ true
part-is kept count x h = first_hit (kept_inside kept x) 0 count (omega arith)

part-inside : (kept : List ℕ) (count x : ℕ) → kept_part kept count x < count → (i : ℕ) → bit i (nth kept (kept_part kept count x)) ≤ bit i x
part-inside kept count x h = inside-bits (nth kept (kept_part kept count x)) x (eqb-true _ _ (part-is kept count x h))

pub kept-start : (bad kept : List ℕ) → length kept ≡ 64 → Kept bad kept 0 1
kept-start bad kept size = record {
  few = omega arith;
  below = omega arith;
  size = size;
  bads = λ j l. absurd (omega arith);
  parts = λ x l u. absurd (omega (arith, usable-some (flagged bad) x u));
}

module _ {bad kept : List ℕ} {count m : ℕ} (k : Kept bad kept count m) (l : m < 64) where
  -- m is not kept: it is not bad, or it has a kept part
  kept_on : (usable (flagged bad) m ≡ true → kept_part kept count m < count) → Kept bad kept count (m + 1)
  kept_on h = record {
    few = omega (arith, k.few);
    below = omega arith;
    size = k.size;
    bads = k.bads;
    parts = λ x s u. ⊎_elim
        (λ e. subst (λ y. kept_part kept count y < count) (sym e) (h (ap (usable (flagged bad)) (sym e) ∙ u)))
        (λ t. k.parts x t u)
        (eq-or-lt_of_le (let t : x ≤ m = omega arith in t));
  }

  pub kept-good : flagged bad m ≡ false → Kept bad kept count (m + 1)
  kept-good e = kept_on (λ u. absurd (true-not-false (usable-bad (flagged bad) m u) e))

  pub kept-held : kept_part kept count m < count → Kept bad kept count (m + 1)
  kept-held h = kept_on (λ u. h)

  -- m is kept
  other : (j : ℕ) → j < count → nth (set kept count m) j ≡ nth kept j
  other j h = get_or-set_other kept count j m 0 (λ e. omega arith)

  pub kept_new : 0 < m → flagged bad m ≡ true → Kept bad (set kept count m) (count + 1) (m + 1)
  kept_new some e =
      let there : count < length kept = omega (arith, k.size, k.few) in
      let at_count : nth (set kept count m) count ≡ m = get_or-set_same kept count m 0 there in
      record {
        few = omega (arith, k.few);
        below = omega arith;
        size = length-set kept count m ∙ k.size;
        bads = λ j s. ⊎_elim
            (λ q. subst (λ y. (y < 64) × (usable (flagged bad) y ≡ true)) (sym at_count ∙ ap (nth (set kept count m)) (sym q)) (l, bad-usable (flagged bad) m some e))
            (λ q. subst (λ y. (y < 64) × (usable (flagged bad) y ≡ true)) (sym (other j q)) (k.bads j q))
            (eq-or-lt_of_le (let t : j ≤ count = omega arith in t));
        parts = λ x s u. ⊎_elim
            (λ q. subst (λ y. kept_part (set kept count m) (count + 1) y < count + 1) (sym q) (part-found (set kept count m) (count + 1) m count (omega arith) (rw at_count (eq-eqb (bit_and m m) m (and_self m)))))
            (λ q.
            let p = k.parts x q u in
            let j = kept_part kept count x in
            part-found (set kept count m) (count + 1) x j (omega arith) (rw (other j p) (part-is kept count x p)))
            (eq-or-lt_of_le (let t : x ≤ m = omega arith in t));
      }

-- all gone through: the kept ones have as many uses as the bad ones
module _ {bad kept : List ℕ} {count : ℕ} (k : Kept bad kept count 64) {room : ℕ → ℕ} {n : ℕ} where
  pub kept-reached : HasRoom kept count room n → Reached (flagged bad) room n
  kept-reached r =
      let u = r.uses in
      let inside : (j : ℕ) → j < count → 0 < u j → nth kept j < 64 = λ j l s. (k.bads j l).0 in
      record {
        uses = turned count (nth kept) u;
        packing = record {
          only = λ x l h.
              let s = turned-some count (nth kept) u x h in
              subst (λ y. usable (flagged bad) y ≡ true) s.3 (k.bads s.0 s.1).1;
          within = λ i l. omega (arith, turned-sum count 64 (nth kept) u inside (bit i), r.packed.within i l);
        };
        total = turned-total count 64 (nth kept) u inside ∙ r.total;
      }

  pub reached-kept : Reached (flagged bad) room n → HasRoom kept count room n
  reached-kept r =
      let u = r.uses in
      let p = kept_part kept count in
      let inside : (x : ℕ) → x < 64 → 0 < u x → p x < count = λ x l s. k.parts x l (r.packing.only x l s) in
      record {
        uses = turned 64 p u;
        packed = record {
          within = λ i l. omega (arith, turned-sum 64 count p u inside (λ j. bit i (nth kept j)), used-mono u (λ x. bit i (nth kept (p x))) (bit i) (λ x s h. part-inside kept count x (inside x s h) i), r.packing.within i l);
        };
        total = turned-total 64 count p u inside ∙ r.total;
      }

-- so the most uses of kept combinations that have room, up to a limit, are the most of any packing up to it
pub kept-up-to : {bad kept : List ℕ} {count limit n : ℕ} {room : ℕ → ℕ} → Kept bad kept count 64 → MostUpTo kept count room limit n
    → n ≡ min limit (most_uses (flagged bad) room)
kept-up-to {bad} {kept} {count} {limit} {n} {room} k m =
    let most = most_uses (flagged bad) room in
    let g = most-greatest (flagged bad) room in
    let all = reached-kept k g.holds in
    let above : n ≤ most = g.above n (kept-reached k m.fits) in
    ⊎_elim
    (λ l. omega (arith, above, m.ceiling.few, m.ceiling.bound limit (omega arith) (fewer-fit limit (omega arith) all)))
    (λ l. omega (arith, above, m.ceiling.bound most l all))
    (lt_or_le limit most)
