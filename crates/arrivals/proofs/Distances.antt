-- Laws of δ for those who call: it starts at 0, never falls, adds up, is never below 01's former one, and passes every bound. Assumes nothing.
use Prim.Native.Nat.{ℕ, zero, suc, zero-le, ◌+◌, ◌*◌, ◌/◌, ◌%◌, ◌≤◌}
use mathlib.Core.Path.{◌≡◌, ap}
use mathlib.Core.List.{List}
use mathlib.Core.Logic.{⊎_elim}
use native.Mathlib.Omega.{arith}
use native.Mathlib.Nat.{le_of_eq, le_trans, le_of_suc-le-suc, eq-or-lt_of_le, mul-le-mul_right, div-add-mod', mod-lt}
use lib.ListN.{length}
use Rattle.table.specs.Limits.{max_distance}
use Rattle.table.specs.Code.Good.{GoodDistances}
use Rattle.arrivals.specs.Arrivals.{as_listed, repeated, δ}
use Rattle.arrivals.proofs.Rules.{Lawful, GoodRule, Slower}
use Rattle.arrivals.proofs.Lists.{rising, listed-near}
use Rattle.arrivals.proofs.Sums.{δ-none, δ-step, δ-by-steps}
use Rattle.arrivals.proofs.Repeating.{repeated-reach, repeated-lawful}

-- so many steps of one length more
pub δ-steps : (ds : List ℕ) (j k i : ℕ) → 1 ≤ j → j ≤ length ds → k * as_listed ds j + δ ds (suc i) ≤ δ ds (suc (k * j + i))
δ-steps ds j zero i l h = le_of_eq (let e : i ≡ 0 * j + i = omega arith in omega (arith, ap (λ n. δ ds (suc n)) e))
δ-steps ds j (suc k) i l h =
    let e : j + (k * j + i) ≡ suc k * j + i = omega arith in
    omega (arith, δ-steps ds j k i l h, δ-step ds j (k * j + i) l h, ap (λ n. δ ds (suc n)) e)

-- δ adds up
pub δ-adds : (ds : List ℕ) → 1 ≤ length ds → (m n : ℕ) → δ ds (m + 1) + δ ds (n + 1) ≤ δ ds (m + n + 1)
δ-adds ds some m n =
    let a : m + 1 ≡ suc m = omega arith in
    let b : n + 1 ≡ suc n = omega arith in
    let c : m + n + 1 ≡ suc (m + n) = omega arith in
    rw (a, b, c)
    (δ-by-steps ds some (λ m x. x + δ ds (suc n) ≤ δ ds (suc (m + n))) (let z : 0 + n ≡ n = omega arith in omega (arith, ap (λ n. δ ds (suc n)) z))
    (λ j i x l h less.
    let e : j + (i + n) ≡ j + i + n = omega arith in
    omega (arith, less, δ-step ds j (i + n) l h, ap (λ n. δ ds (suc n)) e)) m)

module _ {ds : List ℕ} (good : GoodDistances ds) where
  -- δ never falls
  δ-next : (n : ℕ) → δ ds n ≤ δ ds (suc n)
  unfolding δ
  δ-next zero = zero-le
  δ-next (suc n) = let e : suc (1 + n) ≡ suc (suc n) = omega arith in omega (arith, δ-step ds 1 n (omega arith) good.some, ap (δ ds) e)

  pub δ-mono : (m n : ℕ) → m ≤ n → δ ds m ≤ δ ds n
  δ-mono m zero h = let e : m ≡ 0 = omega arith in le_of_eq (ap (δ ds) e)
  δ-mono m (suc n) h =
      ⊎_elim (λ e. le_of_eq (ap (δ ds) e)) (λ g. le_trans (δ-mono m n (le_of_suc-le-suc g)) (δ-next n)) (eq-or-lt_of_le h)

  -- δ(n) is never below 01's former δ(n): that is whole lists, and a step for the rest
  pub δ-above : (n : ℕ) → repeated ds n ≤ δ ds n
  unfolding repeated δ as_listed
  δ-above zero = zero-le
  δ-above (suc m) =
      let i : ℕ = m / length ds in
      let e : i * length ds + m % length ds ≡ m = div-add-mod' m (length ds) in
      omega (arith, rest (m % length ds) (omega (arith, mod-lt m good.some)), δ-steps ds (length ds) i (m % length ds) good.some (omega arith), ap (λ n. δ ds (suc n)) e)
    where
      rest : (j : ℕ) → j ≤ length ds → as_listed ds j ≤ δ ds (suc j)
      rest zero h = zero-le
      rest (suc j) h = let e : suc j + 0 ≡ suc j = omega arith in omega (arith, δ-step ds (suc j) 0 (omega arith) h, ap (λ n. δ ds (suc n)) e)

  pub δ-lawful : Lawful δ ds
  δ-lawful = record { one = δ-none ds; rises = δ-mono; reach = λ n t h. repeated-reach good n t (omega (arith, δ-above n, h)) }

  -- δ(1) = 0
  pub δ-one : δ ds 1 ≡ 0
  δ-one = δ-none ds

  -- δ(n + 1) is at most n times the greatest distance
  pub δ-far : (n : ℕ) → δ ds (suc n) ≤ n * max_distance
  δ-far = δ-by-steps ds good.some (λ n x. x ≤ n * max_distance) zero-le
      (λ j i x l h less. let k : 1 + i ≤ j + i = omega arith in omega (arith, less, listed-near (rising good) j, mul-le-mul_right max_distance k))

  pub δ-near : (n : ℕ) → δ ds n ≤ n * max_distance
  unfolding δ
  δ-near zero = zero-le
  δ-near (suc n) = omega (arith, δ-far n)

pub δ-good : GoodRule δ
δ-good = record { law = δ-lawful }

-- by δ no distance is shorter than by 01's former rule
pub δ_slower : Slower δ repeated
δ_slower = record { first = δ-good; second = record { law = repeated-lawful }; longer = δ-above }
