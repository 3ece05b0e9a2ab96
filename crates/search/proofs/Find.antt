-- Laws of the two searches, and that there is one greatest. Assumes nothing.
use Prim.Native.Nat.{ℕ, zero, suc, ◌+◌, ◌≤◌, ◌<◌}
use mathlib.Core.Path.{◌≡◌, refl, sym, ap, ◌∙◌}
use mathlib.Core.Bool.{Bool, true, false}
use mathlib.Core.Logic.{⊎_elim}
use native.Mathlib.Omega.{arith}
use native.Mathlib.Nat.{eq-or-lt_of_le, le_of_suc-le-suc}
use Rattle.search.specs.Find.{first, last, Greatest}
use Rattle.search.proofs.Choice.{when_cases, true-not-false}

pub greatest_unique : {P : ℕ → Type 0} {m n : ℕ} → Greatest P m → Greatest P n → m ≡ n
greatest_unique {m = m} {n = n} a b = omega (arith, b.above m a.holds, a.above n b.holds)

module _ (p : ℕ → Bool) where
  pub last_le : (n : ℕ) → last p n ≤ n
  unfolding last
  last_le zero = omega arith
  last_le (suc n) = when_cases (λ r. r ≤ suc n) (p n) (λ e. omega arith) (λ e. omega (arith, last_le n))

  -- what was found passes
  pub last_hit : (n m : ℕ) → last p n ≡ suc m → p m ≡ true
  unfolding last
  last_hit zero m e = absurd (omega arith)
  last_hit (suc n) m e = when_cases (λ r. r ≡ suc m → p m ≡ true) (p n)
      (λ q f. let g : m ≡ n = omega (arith, f) in ap p g ∙ q) (λ q f. last_hit n m f) e

  -- nothing above it passes
  pub last-max : (n m : ℕ) → m < n → p m ≡ true → m < last p n
  unfolding last
  last-max zero m h e = absurd (omega arith)
  last-max (suc n) m h e = when_cases (λ r. m < r) (p n) (λ q. h)
      (λ q. ⊎_elim (λ g. absurd (true-not-false e (ap p g ∙ q))) (λ g. last-max n m g e) (eq-or-lt_of_le (le_of_suc-le-suc h)))

  -- where `first` stops
  pub first_ge : (s n : ℕ) → s ≤ first p s n
  unfolding first
  first_ge s zero = omega arith
  first_ge s (suc n) = when_cases (λ r. s ≤ r) (p s) (λ e. omega arith) (λ e. omega (arith, first_ge (suc s) n))

  pub first_le : (s n : ℕ) → first p s n ≤ s + n
  unfolding first
  first_le s zero = omega arith
  first_le s (suc n) = when_cases (λ r. r ≤ s + suc n) (p s) (λ e. omega arith) (λ e. omega (arith, first_le (suc s) n))

  -- none before it passes
  pub first_miss : (s n m : ℕ) → s ≤ m → m < first p s n → p m ≡ false
  unfolding first
  first_miss s zero m h k = absurd (omega arith)
  first_miss s (suc n) m h k = when_cases (λ r. m < r → p m ≡ false) (p s) (λ e l. absurd (omega (arith, l)))
      (λ e l. ⊎_elim (λ g. ap p (sym g) ∙ e) (λ g. first_miss (suc s) n m g l) (eq-or-lt_of_le h)) k

  -- and it passes, where it is one of the n
  pub first_hit : (s n : ℕ) → first p s n < s + n → p (first p s n) ≡ true
  unfolding first
  first_hit s zero h = absurd (omega arith)
  first_hit s (suc n) h = when_cases (λ r. r < s + suc n → p r ≡ true) (p s) (λ e l. e)
      (λ e l. first_hit (suc s) n (omega (arith, l))) h

  -- the two ways to know what `first` is, without a walk
  pub first-is : (s n m : ℕ) → s ≤ m → m < s + n → p m ≡ true → ((k : ℕ) → s ≤ k → k < m → p k ≡ true → ⊥)
      → first p s n ≡ m
  first-is s n m a b e none =
      let u : ¬ (first p s n < m) = λ h. none (first p s n) (first_ge s n) h (first_hit s n (omega arith)) in
      let v : ¬ (m < first p s n) = λ h. true-not-false e (first_miss s n m a h) in
      omega arith

  pub first-none : (s n : ℕ) → ((k : ℕ) → s ≤ k → k < s + n → p k ≡ true → ⊥) → first p s n ≡ s + n
  first-none s n none =
      let u : ¬ (first p s n < s + n) = λ h. none (first p s n) (first_ge s n) h (first_hit s n h) in
      omega (arith, first_le s n)

-- tests that agree on all n of them stop at the same
pub first-same : (p q : ℕ → Bool) (s n : ℕ) → ((k : ℕ) → s ≤ k → k < s + n → p k ≡ q k) → first p s n ≡ first q s n
unfolding first
first-same p q s zero h = refl
first-same p q s (suc n) h = rw (h s (omega arith) (omega arith), first-same p q (suc s) n (λ k a b. h k (omega arith) (omega arith)))
