-- Laws of sums. Assumes nothing.
use Prim.Native.Nat.{ℕ, zero, suc, ◌+◌, ◌*◌, ◌≤◌, ◌<◌}
use mathlib.Core.Path.{◌≡◌, refl, sym, ap, ◌∙◌}
use mathlib.Core.Logic.{⊎_elim}
use native.Mathlib.Omega.{arith}
use native.Mathlib.Numerals.{add-one}
use native.Mathlib.Nat.{eq-or-lt_of_le, le_of_suc-le-suc}
use lib.Dec.{eqb}
use borrow.Author.Tests.{eq-eqb, ne_eqb}
use Rattle.search.specs.Choice.{◌when◌else◌}
use Rattle.search.proofs.Choice.{when_yes, when_no, lt_or_le}
use Rattle.packing.specs.Packing.{sum_to}

-- one more term, as a loop adds it
pub sum_to-more : (f : ℕ → ℕ) (i s x : ℕ) → s ≡ sum_to i f → x ≡ f i → s + x ≡ sum_to (i + 1) f
unfolding sum_to
sum_to-more f i s x e h = rw add-one (omega arith)

pub sum_to-mono : (n : ℕ) (f g : ℕ → ℕ) → ((i : ℕ) → i < n → f i ≤ g i) → sum_to n f ≤ sum_to n g
unfolding sum_to
sum_to-mono zero f g h = omega arith
sum_to-mono (suc n) f g h = omega (arith, sum_to-mono n f g (λ i l. h i (omega arith)), h n (omega arith))

pub sum_to_ext : (n : ℕ) (f g : ℕ → ℕ) → ((i : ℕ) → i < n → f i ≡ g i) → sum_to n f ≡ sum_to n g
sum_to_ext n f g e = omega (arith, sum_to-mono n f g (λ i l. omega (arith, e i l)), sum_to-mono n g f (λ i l. omega (arith, e i l)))

pub sum_to-zero : (n : ℕ) (f : ℕ → ℕ) → ((i : ℕ) → i < n → f i ≡ 0) → sum_to n f ≡ 0
unfolding sum_to
sum_to-zero zero f z = refl
sum_to-zero (suc n) f z = omega (arith, sum_to-zero n f (λ i l. z i (omega arith)), z n (omega arith))

pub sum_to_add : (n : ℕ) (f g : ℕ → ℕ) → sum_to n (λ i. f i + g i) ≡ sum_to n f + sum_to n g
unfolding sum_to
sum_to_add zero f g = refl
sum_to_add (suc n) f g = omega (arith, sum_to_add n f g)

pub sum_to_scale : (n a : ℕ) (f : ℕ → ℕ) → sum_to n (λ i. a * f i) ≡ a * sum_to n f
unfolding sum_to
sum_to_scale zero a f = omega arith
sum_to_scale (suc n) a f = omega (arith, sum_to_scale n a f)

-- a term is no more than the sum_to
pub sum_to-at : (n : ℕ) (f : ℕ → ℕ) (i : ℕ) → i < n → f i ≤ sum_to n f
unfolding sum_to
sum_to-at zero f i h = omega arith
sum_to-at (suc n) f i h = ⊎_elim (λ e. rw e (omega arith)) (λ l. omega (arith, sum_to-at n f i l)) (eq-or-lt_of_le (le_of_suc-le-suc h))

-- rows or columns first
pub sum_to_swap : (n k : ℕ) (f : ℕ → ℕ → ℕ) → sum_to n (λ i. sum_to k (f i)) ≡ sum_to k (λ j. sum_to n (λ i. f i j))
unfolding sum_to
sum_to_swap zero k f = sym (sum_to-zero k (λ j. 0) (λ j l. refl))
sum_to_swap (suc n) k f = ap (λ s. s + sum_to k (f n)) (sum_to_swap n k f) ∙ sym (sum_to_add k (λ j. sum_to n (λ i. f i j)) (f n))

-- 1 at m and 0 elsewhere
abbrev pub is : ℕ → ℕ → ℕ
is m x = 1 when eqb m x else 0

pub is_same : (m : ℕ) → is m m ≡ 1
is_same m = when_yes 1 0 (eq-eqb m m refl)

pub is-other : (m x : ℕ) → (m ≡ x → ⊥) → is m x ≡ 0
is-other m x h = when_no 1 0 (ne_eqb m x h)

-- a sum_to that counts m alone
pub sum_to-none : (n m : ℕ) (f : ℕ → ℕ) → n ≤ m → sum_to n (λ x. is m x * f x) ≡ 0
sum_to-none n m f h = sum_to-zero n (λ x. is m x * f x) (λ x l. rw (is-other m x (λ e. omega arith)) (omega arith))

pub sum_to-is : (n m : ℕ) (f : ℕ → ℕ) → m < n → sum_to n (λ x. is m x * f x) ≡ f m
unfolding sum_to
sum_to-is zero m f h = omega arith
sum_to-is (suc n) m f h = ⊎_elim
    (λ e. let h : is m n ≡ 1 = ap (is m) (sym e) ∙ is_same m in rw h (omega (arith, sum_to-none n m f (omega arith), ap f e)))
    (λ l. rw (is-other m n (λ e. omega arith)) (omega (arith, sum_to-is n m f l)))
    (eq-or-lt_of_le (le_of_suc-le-suc h))

-- a sum_to that is not 0 has a term that is not
pub sum_to-some : (n : ℕ) (f : ℕ → ℕ) → 0 < sum_to n f → (i : ℕ) × (i < n) × (0 < f i)
unfolding sum_to
sum_to-some zero f h = absurd (omega arith)
sum_to-some (suc n) f h = ⊎_elim (λ l. (n, omega arith, l)) (λ l. let r = sum_to-some n f (omega arith) in (r.0, omega (arith, r.1), r.2)) (lt_or_le 0 (f n))
