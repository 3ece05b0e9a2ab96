-- Three kinds of loop, each with its invariant: a search for the first number that passes, a list filled from the front, and a
-- sum_to. Assumes nothing.
use Prim.Native.Nat.{ℕ, ◌+◌, ◌*◌, ◌≤◌, ◌<◌}
use mathlib.Core.Path.{◌≡◌, refl, sym, ◌∙◌}
use mathlib.Core.Bool.{Bool, true, false}
use mathlib.Core.List.{List}
use native.Mathlib.Omega.{arith}
use borrow.Author.Count.{below_more}
use lib.ListN.{length, get_or, set, length-set}
use lib.Seq.{get_or-set_same, get_or-set_other}
use Rattle.search.specs.Find.{first}
use Rattle.search.proofs.Choice.{true-not-false}
use Rattle.search.proofs.Find.{first-is, first-none}
use Rattle.packing.specs.Packing.{sum_to}
use Rattle.packing.proofs.Sums.{sum_to-more}

-- none of s, s + 1, .., i - 1 passes
pub record Passed (p : ℕ → Bool) (s n i : ℕ) : Type 0 where
  pub from : s ≤ i
  pub to : i ≤ s + n
  pub none : (k : ℕ) → k < i → s ≤ k → p k ≡ false

module _ {p : ℕ → Bool} {s n i : ℕ} where
  pub passed_on : Passed p s n i → i < s + n → p i ≡ false → Passed p s n (i + 1)
  passed_on h l e = record { from = omega arith; to = omega arith; none = below_more _ i h.none (λ k. e) }

  pub passed_hit : Passed p s n i → i < s + n → p i ≡ true → i ≡ first p s n
  passed_hit h l e = sym (first-is p s n i h.from l e (λ k a b t. true-not-false t (h.none k b a)))

  pub passed-end : Passed p s n i → s + n ≤ i → i ≡ first p s n
  passed-end h l =
      let e : i ≡ s + n = omega (arith, h.to) in
      e ∙ sym (first-none p s n (λ k a b t. true-not-false t (h.none k (omega arith) a)))

pub passed_start : (p : ℕ → Bool) (s n : ℕ) → Passed p s n s
passed_start p s n = record { from = omega arith; to = omega arith; none = λ k l h. absurd (omega arith) }

-- of a list of n numbers those before i are as they shall be
pub record Filled (P : ℕ → ℕ → Type 0) (n : ℕ) (out : List ℕ) (i : ℕ) : Type 0 where
  pub to : i ≤ n
  pub size : length out ≡ n
  pub done : (k : ℕ) → k < i → P k (get_or out k 0)

pub filled_on : {P : ℕ → ℕ → Type 0} {n i v : ℕ} {out : List ℕ} → Filled P n out i → i < n → P i v → Filled P n (set out i v) (i + 1)
filled_on {P} {n} {i} {v} {out} f l h =
    let in-range : i < length out = omega (arith, f.size) in
    record {
      to = omega arith;
      size = length-set out i v ∙ f.size;
      done = below_more (λ k. P k (get_or (set out i v) k 0)) i
          (λ k s. rw (get_or-set_other out i k v 0 (λ e. omega arith)) (f.done k s))
          (rw (get_or-set_same out i v 0 in-range) h);
    }

-- the terms before i are added up, none above `most`
pub record Added (f : ℕ → ℕ) (most n i s : ℕ) : Type 0 where
  pub to : i ≤ n
  pub is : s ≡ sum_to i f
  pub small : s ≤ i * most

pub added-start : (f : ℕ → ℕ) (most n : ℕ) → Added f most n 0 0
unfolding sum_to
added-start f most n = record { to = omega arith; is = refl; small = omega arith }

module _ {f : ℕ → ℕ} {most n i s : ℕ} (a : Added f most n i s) where
  pub added-on : {x : ℕ} → i < n → x ≡ f i → x ≤ most → Added f most n (i + 1) (s + x)
  added-on {x} l e h = record { to = omega arith; is = sum_to-more f i s x a.is e; small = omega (arith, a.small) }

  pub added-end : n ≤ i → (s ≡ sum_to n f) × (s ≤ n * most)
  added-end l = let e : i ≡ n = omega (arith, a.to) in (rw (← e) a.is, rw (← e) a.small)
