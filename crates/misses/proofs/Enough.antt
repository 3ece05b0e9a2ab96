-- How many uses reach k: where each counts `late` times, no more of them need to be looked for. Assumes nothing.
use Prim.Native.Nat.{ℕ, ◌+◌, ◌*◌, ◌-◌, ◌/◌, ◌%◌, ◌≤◌, min}
use mathlib.Core.Path.{◌≡◌, ap}
use mathlib.Core.Logic.{⊎_elim}
use native.Mathlib.Omega.{arith}
use native.Mathlib.Nat.{mul-le-mul_left, div-add-mod', mod-lt}
use Rattle.search.proofs.Choice.{lt_or_le}

-- the least number of uses that reach k
abbrev pub enough_for : ℕ → ℕ → ℕ
enough_for k late = (k - 1) / late + 1

module _ (k late : ℕ) (low : 1 ≤ k) (some : 1 ≤ late) where
  whole : (k - 1) / late * late + (k - 1) % late ≡ k - 1
  whole = div-add-mod' (k - 1) late

  pub enough-few : enough_for k late ≤ k
  enough-few = omega (arith, whole, mul-le-mul_left ((k - 1) / late) some)

  reaches : k ≤ late * enough_for k late
  reaches = omega (arith, whole, mod-lt (k - 1) some)

  pub enough-uses : (uses most : ℕ) → uses ≡ min (enough_for k late) most → min k (late * uses) ≡ min k (late * most)
  enough-uses uses most e = ⊎_elim
      (λ l. let h : uses ≡ enough_for k late = omega arith in omega (arith, reaches, ap (λ n. late * n) h, mul-le-mul_left late (let g : enough_for k late ≤ most = omega arith in g)))
      (λ l. let h : uses ≡ most = omega arith in ap (λ n. min k (late * n)) h)
      (lt_or_le (enough_for k late) most)
