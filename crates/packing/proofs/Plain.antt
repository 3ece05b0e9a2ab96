-- The plain search is right: k uses of the bad combinations below n have room exactly where a packing of these has k uses.
-- Assumes nothing.
use Prim.Native.Nat.{ℕ, zero, suc, ◌+◌, ◌-◌, ◌*◌, ◌≤◌, ◌<◌}
use mathlib.Core.Path.{◌≡◌, refl, sym, ap, ◌∙◌}
use mathlib.Core.Bool.{Bool, true, false, ◌||◌, or-true, and-false}
use mathlib.Core.Logic.{◌⊎◌, inl, inr, ⊎_elim}
use native.Mathlib.Omega.{arith}
use native.Mathlib.Nat.{eq-or-lt_of_le, le_of_suc-le-suc}
use lib.Dec.{eqb}
use borrow.Author.Tests.{ltb-true, ltb-false, eqb-true, eq-eqb, ne_eqb}
use Rattle.search.proofs.Choice.{true-not-false, lt_or_le, when_yes, when_no, when_cases}
use Rattle.search.specs.Find.{first}
use Rattle.search.specs.Choice.{◌when◌else◌}
use Rattle.search.proofs.Find.{first_miss, first-none}
use Rattle.packing.specs.Packing.{bit, sum_to, usable}
use Rattle.packing.specs.Code.Plain.{lacks, fits, less, reach}
use Rattle.packing.proofs.Sums.{is, is-other, sum_to_add, sum_to-is, sum_to_ext, sum_to-zero}

-- a packing of the bad combinations below n
pub record Below (bad : ℕ → Bool) (n : ℕ) (room uses : ℕ → ℕ) : Type 0 where
  pub only : (m : ℕ) → m < n → 0 < uses m → usable bad m ≡ true
  pub within : (i : ℕ) → i < 6 → sum_to n (λ m. uses m * bit i m) ≤ room i

pub record Uses (bad : ℕ → Bool) (n : ℕ) (room : ℕ → ℕ) (k : ℕ) : Type 0 where
  pub uses : ℕ → ℕ
  pub packing : Below bad n room uses
  pub total : sum_to n uses ≡ k

-- each active segment of m has room
pub fits-room : (m : ℕ) (room : ℕ → ℕ) → fits m room ≡ true → (i : ℕ) → i < 6 → bit i m ≤ room i
fits-room m room h i l =
    let e : first (lacks m room) 0 6 ≡ 6 = eqb-true (first (lacks m room) 0 6) 6 h in
    ltb-false (room i) (bit i m) (first_miss (lacks m room) 0 6 i (omega arith) (omega arith))

pub room_fits : (m : ℕ) (room : ℕ → ℕ) → ((i : ℕ) → i < 6 → bit i m ≤ room i) → fits m room ≡ true
room_fits m room h = eq-eqb _ 6 (first-none (lacks m room) 0 6 (λ i a b e. omega (arith, ltb-true (room i) (bit i m) e, h i b)))

-- m once more
abbrev more : ℕ → (ℕ → ℕ) → ℕ → ℕ
more m u x = is m x + u x

more-sum : (n m : ℕ) (u g : ℕ → ℕ) → m < n → sum_to n (λ x. more m u x * g x) ≡ g m + sum_to n (λ x. u x * g x)
more-sum n m u g h =
    sum_to_ext n (λ x. more m u x * g x) (λ x. is m x * g x + u x * g x) (λ x l. omega arith)
    ∙ sum_to_add n (λ x. is m x * g x) (λ x. u x * g x) ∙ ap (λ s. s + sum_to n (λ x. u x * g x)) (sum_to-is n m g h)

by_one : (n : ℕ) (u : ℕ → ℕ) → sum_to n u ≡ sum_to n (λ x. u x * 1)
by_one n u = sum_to_ext n u (λ x. u x * 1) (λ x l. omega arith)

more-total : (n m : ℕ) (u : ℕ → ℕ) → m < n → sum_to n (more m u) ≡ suc (sum_to n u)
more-total n m u h = omega (arith, by_one n (more m u), more-sum n m u (λ x. 1) h, by_one n u)

or_cases : (a b : Bool) → (a || b) ≡ true → (a ≡ true) ⊎ (b ≡ true)
or_cases true b e = inl refl
or_cases false b e = inr e

pub reach-end : (bad : ℕ → Bool) (k : ℕ) (room : ℕ → ℕ) → reach bad 0 (suc k) room ≡ false
unfolding reach
reach-end bad k room = refl

-- the steps of the search
module _ (bad : ℕ → Bool) (m k : ℕ) (room : ℕ → ℕ) where
  pub reach-good : usable bad m ≡ false → reach bad (suc m) (suc k) room ≡ reach bad m (suc k) room
  unfolding reach
  reach-good e = when_no _ _ (rw e)

  pub reach-full : fits m room ≡ false → reach bad (suc m) (suc k) room ≡ reach bad m (suc k) room
  unfolding reach
  reach-full e = when_no _ _ (rw (e, and-false (usable bad m)))

  pub reach_use : usable bad m ≡ true → fits m room ≡ true
      → reach bad (suc m) (suc k) room ≡ (reach bad (suc m) k (less m room) || reach bad m (suc k) room)
  unfolding reach
  reach_use e f = when_yes _ _ (rw (e, f))

-- without m
abbrev without : ℕ → (ℕ → ℕ) → ℕ → ℕ
without m u x = 0 when eqb m x else u x

without_at : (m : ℕ) (u : ℕ → ℕ) → without m u m ≡ 0
without_at m u = when_yes 0 (u m) (eq-eqb m m refl)

without_other : (m : ℕ) (u : ℕ → ℕ) (x : ℕ) → x < m → without m u x ≡ u x
without_other m u x l = when_no 0 (u x) (ne_eqb m x (λ e. omega arith))

module _ (bad : ℕ → Bool) (m : ℕ) (room : ℕ → ℕ) where
  -- a packing of the combinations below m is one of those below m + 1 that does not use m
  idle : {k : ℕ} → Uses bad m room k → Uses bad (suc m) room k
  unfolding sum_to
  idle p =
      let u = p.uses in
      let z = without_at m u in
      record {
        uses = without m u;
        packing = record {
          only = λ x l h. ⊎_elim (λ e. absurd (omega (arith, h, ap (without m u) e))) (λ s. p.packing.only x s (omega (arith, h, without_other m u x s))) (eq-or-lt_of_le (le_of_suc-le-suc l));
          within = λ i l. rw z (omega (arith, p.packing.within i l, sum_to_ext m (λ x. without m u x * bit i x) (λ x. u x * bit i x) (λ x s. ap (λ y. y * bit i x) (without_other m u x s))));
        };
        total = omega (arith, p.total, sum_to_ext m (without m u) u (without_other m u));
      }

  -- one use more of m, where it has room
  once : {k : ℕ} → usable bad m ≡ true → fits m room ≡ true → Uses bad (suc m) (less m room) k → Uses bad (suc m) room (suc k)
  once g f p = record {
    uses = more m p.uses;
    packing = record {
      only = λ x l h. ⊎_elim (λ e. rw e g) (λ s. p.packing.only x l (omega (arith, h, is-other m x (λ e. omega arith)))) (eq-or-lt_of_le (le_of_suc-le-suc l));
      within = λ i l. omega (arith, more-sum (suc m) m p.uses (bit i) (omega arith), p.packing.within i l, fits-room m room f i l);
    };
    total = omega (arith, more-total (suc m) m p.uses (omega arith), p.total);
  }

  step-uses : (k : ℕ) → (reach bad m (suc k) room ≡ true → Uses bad m room (suc k))
      → (reach bad (suc m) k (less m room) ≡ true → Uses bad (suc m) (less m room) k)
      → reach bad (suc m) (suc k) room ≡ true → (u : Bool) → usable bad m ≡ u → (f : Bool) → fits m room ≡ f → Uses bad (suc m) room (suc k)
  step-uses k rest again e false g f h = idle (rest (sym (reach-good bad m k room g) ∙ e))
  step-uses k rest again e true g false h = idle (rest (sym (reach-full bad m k room h) ∙ e))
  step-uses k rest again e true g true h =
      ⊎_elim (λ l. once g h (again l)) (λ l. idle (rest l)) (or_cases _ _ (sym (reach_use bad m k room g h) ∙ e))

pub reach-uses : (bad : ℕ → Bool) (n k : ℕ) (room : ℕ → ℕ) → reach bad n k room ≡ true → Uses bad n room k
reach-uses bad n zero room e = record {
  uses = λ m. 0;
  packing = record { only = λ m l h. absurd (omega arith); within = λ i l. omega (arith, sum_to-zero n (λ m. 0 * bit i m) (λ m s. omega arith)) };
  total = sum_to-zero n (λ m. 0) (λ m s. refl);
}
reach-uses bad zero (suc k) room e = absurd (true-not-false e (reach-end bad k room))
reach-uses bad (suc m) (suc k) room e =
    step-uses bad m room k (reach-uses bad m (suc k) room) (reach-uses bad (suc m) k (less m room)) e (usable bad m) refl (fits m room) refl

-- m once less
abbrev fewer : ℕ → (ℕ → ℕ) → ℕ → ℕ
fewer m u x = u x - is m x

restored : (m : ℕ) (u : ℕ → ℕ) → 0 < u m → (x : ℕ) → more m (fewer m u) x ≡ u x
restored m u h x = when_cases (λ r. r + (u x - r) ≡ u x) (eqb m x) (λ e. omega (arith, ap u (eqb-true m x e))) (λ e. omega arith)

restored-sum : (n m : ℕ) (u g : ℕ → ℕ) → m < n → 0 < u m → sum_to n (λ x. u x * g x) ≡ g m + sum_to n (λ x. fewer m u x * g x)
restored-sum n m u g l h =
    sum_to_ext n (λ x. u x * g x) (λ x. more m (fewer m u) x * g x) (λ x s. ap (λ y. y * g x) (sym (restored m u h x))) ∙ more-sum n m (fewer m u) g l

module _ (bad : ℕ → Bool) (m : ℕ) (room u : ℕ → ℕ) (p : Below bad (suc m) room u) where
  lower : Below bad m room u
  unfolding sum_to
  lower = record { only = λ x l. p.only x (omega arith); within = λ i l. omega (arith, p.within i l) }

  -- a combination that is used has room
  used-fits : 0 < u m → fits m room ≡ true
  used-fits h = room_fits m room (λ i l. omega (arith, p.within i l, restored-sum (suc m) m u (bit i) (omega arith) h))

  taken : 0 < u m → Below bad (suc m) (less m room) (fewer m u)
  taken h = record {
    only = λ x l s. p.only x l (omega arith);
    within = λ i l. omega (arith, p.within i l, restored-sum (suc m) m u (bit i) (omega arith) h);
  }

  taken-total : (k : ℕ) → 0 < u m → sum_to (suc m) u ≡ suc k → sum_to (suc m) (fewer m u) ≡ k
  taken-total k h e = omega (arith, by_one (suc m) u, restored-sum (suc m) m u (λ x. 1) (omega arith) h, by_one (suc m) (fewer m u))

  step-reach : (k : ℕ) → (reach bad m (suc k) room ≡ true) ⊎ ((usable bad m ≡ true) × (fits m room ≡ true) × (reach bad (suc m) k (less m room) ≡ true))
      → (v : Bool) → usable bad m ≡ v → (f : Bool) → fits m room ≡ f → reach bad (suc m) (suc k) room ≡ true
  step-reach k (inl h) false g f e = reach-good bad m k room g ∙ h
  step-reach k (inl h) true g false e = reach-full bad m k room e ∙ h
  step-reach k (inl h) true g true e = reach_use bad m k room g e ∙ rw (h, or-true (reach bad (suc m) k (less m room)))
  step-reach k (inr h) v g f e = reach_use bad m k room h.0 h.1 ∙ rw h.2

pub uses-reach : (bad : ℕ → Bool) (n k : ℕ) (room u : ℕ → ℕ) → Below bad n room u → sum_to n u ≡ k → reach bad n k room ≡ true
unfolding reach sum_to
uses-reach bad n zero room u p e = refl
uses-reach bad zero (suc k) room u p e = absurd (omega arith)
uses-reach bad (suc m) (suc k) room u p e =
    step-reach bad m room u p k
    (⊎_elim
    (λ h. inr (p.only m (omega arith) h, used-fits bad m room u p h, uses-reach bad (suc m) k (less m room) (fewer m u) (taken bad m room u p h) (taken-total bad m room u p k h e)))
    (λ h. inl (uses-reach bad m (suc k) room u (lower bad m room u p) (omega arith)))
    (lt_or_le 0 (u m)))
    (usable bad m) refl (fits m room) refl
