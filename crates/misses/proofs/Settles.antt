-- Which costs are settled after a round, and what is known once none is open. Assumes nothing.
use Prim.Native.Nat.{ℕ, ◌+◌, ◌≤◌, ◌<◌}
use mathlib.Core.Path.{◌≡◌, refl, sym, ◌∙◌}
use mathlib.Core.Bool.{Bool, true, false}
use mathlib.Core.List.{List}
use mathlib.Core.Logic.{⊎_elim}
use native.Mathlib.Omega.{arith}
use borrow.Author.Tests.{le-leb, lt-leb}
use borrow.Author.Count.{below_more}
use lib.ListN.{get_or}
use Rattle.search.proofs.Choice.{true-not-false, lt_or_le}
use Rattle.packing.specs.Packing.{combinations}
use Rattle.misses.specs.Code.Settling.{beyond, Costs, Settles, Open, Inside, Picks, BadFrom}
use Rattle.misses.specs.declared.Settled.{Settled}

-- a test that never turns false again as its number grows
abbrev pub Worsens : (ℕ → Bool) → Type 0
Worsens over = (c e : ℕ) → c ≤ e → over c ≡ true → over e ≡ true

no_true : (b : Bool) → (b ≡ true → ⊥) → b ≡ false
no_true true h = absurd (h refl)
no_true false h = refl

module _ (over : ℕ → Bool) (worsens : Worsens over) where
  fine-below : (c e : ℕ) → c ≤ e → over e ≡ false → over c ≡ false
  fine-below c e h f = no_true (over c) (λ t. true-not-false (worsens c e h t) f)

  pub settles_none : over 0 ≡ false → Settles over (record { good = 0; bad = beyond })
  settles_none e = record {
    below = λ c h. fine-below c 0 h e;
    above = λ c h l. absurd (omega arith);
    apart = omega arith;
    inside = omega arith;
  }

  module _ (s : Settled) (c : ℕ) (is : Settles over s) (lies : Open s c) where
    pub settles_bad : over c ≡ true → Settles over (record { good = s.good; bad = c })
    settles_bad e = record {
      below = is.below;
      above = λ x h l. worsens c x h e;
      apart = lies.low;
      inside = omega (arith, is.inside, lies.high);
    }

    pub settles_good : over c ≡ false → Settles over (record { good = c; bad = s.bad })
    settles_good e = record {
      below = λ x h. fine-below x c h e;
      above = is.above;
      apart = lies.high;
      inside = is.inside;
    }

-- none is open: each cost is settled one way or the other
pub settles_tell : (over : ℕ → Bool) (s : Settled) (costs : List ℕ) (sets : ℕ) → Settles over s → Picks s costs 0 → Costs costs sets → BadFrom over costs s.bad
settles_tell over s costs sets is p are m h =
    ⊎_elim
    (λ l. lt-leb s.bad (get_or costs m 0) l ∙ sym (is.below (get_or costs m 0) (low l)))
    (λ l. le-leb s.bad (get_or costs m 0) l ∙ sym (is.above (get_or costs m 0) l (are.within m h)))
    (lt_or_le (get_or costs m 0) s.bad)
  where
    low : get_or costs m 0 < s.bad → get_or costs m 0 ≤ s.good
    low l = ⊎_elim (λ g. absurd (p.none refl m h (record { low = g; high = l }))) (λ g. g) (lt_or_le s.good (get_or costs m 0))

-- the loop of `pick`: the costs before m are gone through, `most` how far the best of them is inside
pub record Picking (s : Settled) (costs : List ℕ) (sets best most m : ℕ) : Type 0 where
  pub inside : m ≤ sets
  pub found : 0 < most → Open s best
  pub lost : most ≡ 0 → (best ≡ 0) × ((j : ℕ) → j < m → Open s (get_or costs j 0) → ⊥)

pub picking_none : (s : Settled) (costs : List ℕ) (sets : ℕ) → Picking s costs sets 0 0 0
picking_none s costs sets = record {
  inside = omega arith;
  found = λ h. absurd (omega (arith, h));
  lost = λ h. (refl, λ j l. absurd (omega (arith, l)));
}

module _ (s : Settled) (costs : List ℕ) (sets best most m n : ℕ) (at : Picking s costs sets best most m) (more : m < sets) (lies : Inside s (get_or costs m 0) n) where
  pub picking_better : most < n → Picking s costs sets (get_or costs m 0) n (m + 1)
  picking_better h = record {
    inside = omega arith;
    found = lies.is;
    lost = λ l. absurd (omega (arith, l));
  }

  pub picking_worse : n ≤ most → Picking s costs sets best most (m + 1)
  picking_worse h = record {
    inside = omega arith;
    found = at.found;
    lost = λ l. ((at.lost l).0, below_more (λ j. Open s (get_or costs j 0) → ⊥) m (at.lost l).1 (λ o. omega (arith, l, lies.some o)));
  }

pub picking_done : (s : Settled) (costs : List ℕ) (sets best most m : ℕ) → Picking s costs sets best most m → Costs costs sets → sets ≤ m → Picks s costs best
picking_done s costs sets best most m at are h =
    ⊎_elim
    (λ l. record { none = λ e. absurd (omega (arith, (at.found l).low)); one = λ b. at.found l })
    (λ l. let z : most ≡ 0 = omega arith in record { none = λ e. closed z; one = λ b. absurd (omega (arith, (at.lost z).0)) })
    (lt_or_le 0 most)
  where
    closed : most ≡ 0 → (j : ℕ) → j < combinations → Open s (get_or costs j 0) → ⊥
    closed z j k o = ⊎_elim (λ l. (at.lost z).1 j (omega arith) o) (λ l. omega (arith, o.low, are.past j l k)) (lt_or_le j sets)
