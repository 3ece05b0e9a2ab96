-- Latency and late up to an activation: none, one more, and how large they can be. Assumes nothing.
use Prim.Native.Nat.{ℕ, zero, suc, zero-le, ◌+◌, ◌-◌, max, ◌≤◌}
use mathlib.Core.Path.{◌≡◌, refl, ap}
use mathlib.Core.Logic.{⊎_elim}
use lib.Dec.{ltb}
use native.Mathlib.Omega.{arith}
use native.Mathlib.Numerals.{add-one}
use native.Mathlib.Nat.{le_refl, eq-or-lt_of_le}
use Rattle.search.specs.Find.{Greatest}
use Rattle.search.specs.Lists.{sum_of, most_of}
use Rattle.search.proofs.Choice.{when_cases, lt_or_le}
use Rattle.table.specs.Limits.{horizon}
use Rattle.windows.specs.Window.{Window, window_of}
use Rattle.windows.specs.Latency.{long, latency_at, up_to, latency_to, over_of, late_to}
use Rattle.std.specs.declared.option.Option.TheVariants.{Some, None}
use Rattle.windows.proofs.Least.{window-at}

-- no window is longer than the horizon
pub long_le : (d : ℕ → ℕ) → long (window_of d) ≤ horizon
long_le d = go (window_of d) refl
  where
    go : (w : Window) → window_of d ≡ w → long w ≤ horizon
    go (Some t) e = (window-at d t e).high
    go None e = zero-le

over_le : (x deadline : ℕ) → over_of x deadline ≤ 1
over_le x deadline = when_cases (λ n. n ≤ 1) (ltb deadline x) (λ e. le_refl 1) (λ e. zero-le)

module _ (demand : ℕ → ℕ → ℕ) (distance : ℕ → ℕ) where
  pub latency-is : (q t : ℕ) → window_of (demand q) ≡ Some t → latency_at demand distance q ≡ t - distance q
  unfolding latency_at
  latency-is q t e = ap (λ w. long w - distance q) e

  pub latency-none : 0 ≡ latency_to demand distance 0
  unfolding latency_to up_to most_of
  latency-none = refl

  pub latency-more : (close : ℕ) → latency_to demand distance (close + 1) ≡ max (latency_to demand distance close) (latency_at demand distance (close + 1))
  unfolding latency_to up_to most_of
  latency-more close = rw add-one (omega arith)

  pub latency-near : (close : ℕ) → latency_to demand distance close ≤ horizon
  unfolding latency_to latency_at up_to most_of
  latency-near zero = zero-le
  latency-near (suc close) = omega (arith, long_le (demand (suc close)), latency-near close)

  -- it is the greatest of them, and one of them
  latency-each : (close q : ℕ) → 1 ≤ q → q ≤ close → latency_at demand distance q ≤ latency_to demand distance close
  unfolding latency_to up_to most_of
  latency-each zero q l h = absurd (omega arith)
  latency-each (suc close) q l h =
      ⊎_elim (λ e. omega (arith, ap (latency_at demand distance) e)) (λ m. omega (arith, latency-each close q l (omega arith))) (eq-or-lt_of_le h)

  latency-some : (close : ℕ) → (q : ℕ) × (1 ≤ q) × (q ≤ suc close) × (latency_at demand distance q ≡ latency_to demand distance (suc close))
  unfolding latency_to up_to most_of
  latency-some zero = (1, le_refl 1, le_refl 1, omega arith)
  latency-some (suc close) =
      let r = latency-some close in
      ⊎_elim (λ h. (r.0, r.1, omega (arith, r.2), omega (arith, r.3))) (λ h. (suc (suc close), omega arith, le_refl (suc (suc close)), omega arith))
      (lt_or_le (latency_at demand distance (suc (suc close))) (latency_to demand distance (suc close)))

  pub latency-greatest : (close : ℕ) → 1 ≤ close → Greatest (λ n. (q : ℕ) × (1 ≤ q) × (q ≤ close) × (latency_at demand distance q ≡ n)) (latency_to demand distance close)
  latency-greatest zero h = absurd (omega arith)
  latency-greatest (suc close) h = record {
    holds = latency-some close;
    above = λ n r. omega (arith, latency-each (suc close) r.0 r.1 r.2, r.3);
  }

  module _ (deadline : ℕ) where
    pub late-none : 0 ≡ late_to demand distance deadline 0
    unfolding late_to up_to sum_of
    late-none = refl

    pub late-more : (close : ℕ) → late_to demand distance deadline (close + 1) ≡ late_to demand distance deadline close + over_of (latency_at demand distance (close + 1)) deadline
    unfolding late_to up_to sum_of
    late-more close = rw add-one (omega arith)

    pub late-few : (close : ℕ) → late_to demand distance deadline close ≤ close
    unfolding late_to up_to sum_of
    late-few zero = zero-le
    late-few (suc close) = omega (arith, over_le (latency_at demand distance (suc close)) deadline, late-few close)
