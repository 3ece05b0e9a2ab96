-- The linear bound: what is packed weighs at least d for each use of a combination that weighs at least d, and at most what the
-- room weighs. It holds for any weights, and for any list of combinations. Assumes nothing.
use Prim.Native.Nat.{ℕ, zero, suc, ◌*◌, ◌≤◌, ◌<◌}
use mathlib.Core.Path.{◌≡◌, refl, sym, ◌∙◌}
use mathlib.Core.Bool.{Bool, true}
use native.Mathlib.Omega.{arith}
use native.Mathlib.Nat.{mul-le-mul_left}
use Rattle.search.proofs.Choice.{true-not-false}
use Rattle.packing.specs.Packing.{bit, sum_to, usable}
use Rattle.packing.proofs.Sums.{sum_to-mono, sum_to_ext, sum_to_scale, sum_to_swap, sum_to-at}
use Rattle.packing.proofs.Bits.{some-bit}
use Rattle.packing.proofs.Plain.{Below}

uses_weigh : (d v x : ℕ) → (0 < v → d ≤ x) → d * v ≤ v * x
uses_weigh d zero x h = omega arith
uses_weigh d (suc v) x h = omega (arith, mul-le-mul_left (suc v) (h (omega arith)))

-- u j uses of the combination `mask j`, for each j below n
module _ (n : ℕ) (mask u w : ℕ → ℕ) where
  -- the weight of all that is packed, by combinations and by active segments
  packed : sum_to n (λ j. u j * sum_to 6 (λ i. w i * bit i (mask j))) ≡ sum_to 6 (λ i. w i * sum_to n (λ j. u j * bit i (mask j)))
  packed =
      sum_to_ext n (λ j. u j * sum_to 6 (λ i. w i * bit i (mask j))) (λ j. sum_to 6 (λ i. u j * (w i * bit i (mask j)))) (λ j l. sym (sum_to_scale 6 (u j) (λ i. w i * bit i (mask j))))
      ∙ sum_to_swap n 6 (λ j i. u j * (w i * bit i (mask j)))
      ∙ sum_to_ext 6 (λ i. sum_to n (λ j. u j * (w i * bit i (mask j)))) (λ i. w i * sum_to n (λ j. u j * bit i (mask j))) (λ i l. of i)
    where
      -- of one active segment
      of : (i : ℕ) → sum_to n (λ j. u j * (w i * bit i (mask j))) ≡ w i * sum_to n (λ j. u j * bit i (mask j))
      of i = sum_to_ext n (λ j. u j * (w i * bit i (mask j))) (λ j. w i * (u j * bit i (mask j))) (λ j s. omega arith) ∙ sum_to_scale n (w i) (λ j. u j * bit i (mask j))

  pub all_weigh : (room : ℕ → ℕ) → ((i : ℕ) → i < 6 → sum_to n (λ j. u j * bit i (mask j)) ≤ room i)
      → sum_to n (λ j. u j * sum_to 6 (λ i. w i * bit i (mask j))) ≤ sum_to 6 (λ i. w i * room i)
  all_weigh room h =
      let b = sum_to-mono 6 (λ i. w i * sum_to n (λ j. u j * bit i (mask j))) (λ i. w i * room i) (λ i l. mul-le-mul_left (w i) (h i l)) in
      omega (arith, b, packed)

  pub each_weighs : (d : ℕ) → ((j : ℕ) → j < n → 0 < u j → d ≤ sum_to 6 (λ i. w i * bit i (mask j)))
      → d * sum_to n u ≤ sum_to n (λ j. u j * sum_to 6 (λ i. w i * bit i (mask j)))
  each_weighs d h =
      let a = sum_to-mono n (λ j. d * u j) (λ j. u j * sum_to 6 (λ i. w i * bit i (mask j))) (λ j l. uses_weigh d (u j) (sum_to 6 (λ i. w i * bit i (mask j))) (h j l)) in
      omega (arith, a, sum_to_scale n d u)

-- a combination that is used takes at least 1 of the room
pub usable-some : (bad : ℕ → Bool) (m : ℕ) → usable bad m ≡ true → 0 < m
usable-some bad zero e = absurd (true-not-false e refl)
usable-some bad (suc m) e = omega arith

pub all_room : (bad : ℕ → Bool) (room u : ℕ → ℕ) → Below bad 64 room u → sum_to 64 u ≤ sum_to 6 room
all_room bad room u p =
    let h = each_weighs 64 (λ m. m) u (λ i. 1) 1 (λ m l s. let b = some-bit 6 m (usable-some bad m (p.only m l s)) l in omega (arith, b.2, sum_to-at 6 (λ i. 1 * bit i m) b.0 b.1)) in
    let g = all_weigh 64 (λ m. m) u (λ i. 1) room p.within in
    omega (arith, h, g, sum_to_ext 6 (λ i. 1 * room i) room (λ i l. omega arith))
