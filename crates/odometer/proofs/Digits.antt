-- Laws of digits: what a change of one of them does to a sum. Assumes nothing.
use Prim.Native.Nat.{ℕ, zero, suc, ◌+◌, ◌≤◌, ◌<◌}
use mathlib.Core.Path.{◌≡◌, ap}
use mathlib.Core.Logic.{⊎_elim}
use native.Mathlib.Omega.{arith}
use native.Mathlib.Nat.{eq-or-lt_of_le, le_of_suc-le-suc}
use Rattle.packing.specs.Packing.{sum_to}
use Rattle.packing.proofs.Sums.{sum_to-mono}

-- where no term but that at m is larger in f, the sums differ by no more than the terms at m do
pub sum-above : (n m : ℕ) (f g : ℕ → ℕ) → m < n → ((x : ℕ) → x < n → (x ≡ m → ⊥) → f x ≤ g x) → sum_to n f + g m ≤ sum_to n g + f m
unfolding sum_to
sum-above zero m f g l h = absurd (omega arith)
sum-above (suc n) m f g l h = ⊎_elim
    (λ e. omega (arith, ap f e, ap g e, sum_to-mono n f g (λ x s. h x (omega arith) (λ q. omega (arith, q, e)))))
    (λ s. omega (arith, sum-above n m f g s (λ x k. h x (omega arith)), h n (omega arith) (λ q. omega (arith, q))))
    (eq-or-lt_of_le (le_of_suc-le-suc l))

-- where only the terms at m differ, the sums differ as these do
pub sum_change : (n m : ℕ) (f g : ℕ → ℕ) → m < n → ((x : ℕ) → x < n → (x ≡ m → ⊥) → f x ≡ g x) → sum_to n f + g m ≡ sum_to n g + f m
sum_change n m f g l h =
    omega (arith, sum-above n m f g l (λ x s d. omega (arith, h x s d)), sum-above n m g f l (λ x s d. omega (arith, h x s d)))
