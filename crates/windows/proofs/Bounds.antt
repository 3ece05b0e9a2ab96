-- How large the parts of a demand can be in a t that it is worked out for: all of them fit 64 bits. Assumes nothing.
use Prim.Native.Nat.{ℕ, zero, suc, ◌+◌, ◌*◌, ◌-◌, ◌≤◌}
use mathlib.Core.Path.{◌≡◌, refl, ap, sym, ◌∙◌}
use mathlib.Core.List.{List}
use native.Mathlib.Omega.{arith}
use native.Mathlib.Numerals.{add-one}
use native.Mathlib.Nat.{le_trans, le_refl, le_of_eq, sub-le, mul-zero, mul-le-mul, mul-le-mul_left, mul-le-mul_right}
use borrow.Author.Tests.{eqb-true}
use lib.Dec.{eqb}
use Rattle.search.specs.Choice.{◌when◌else◌}
use Rattle.search.proofs.Choice.{when_cases}
use Rattle.table.specs.Limits.{max_chains, max_activations, max_distances}
use Rattle.arrivals.specs.Arrivals.{η}
use Rattle.table.specs.Code.Good.{GoodDistances}
use Rattle.arrivals.proofs.Counts.{η-near}
use Rattle.windows.specs.Code.Load.{latest, held_rate, held_at, held_of, Held, Load, own_of, demand_in, Sound}
use Rattle.segments.specs.Code.Held.{dearest}
use Rattle.windows.proofs.Growth.{held-fewer}

-- activations in t, each at a chain's cost
abbrev pub busiest : ℕ
busiest = max_distances * latest * dearest

pub turns_le : {ds : List ℕ} → GoodDistances ds → (n rate t : ℕ) → n ≤ η ds t → rate ≤ dearest → t ≤ latest → n * rate ≤ busiest
turns_le good n rate t h k l = mul-le-mul (le_trans h (le_trans (η-near good t) (mul-le-mul_left max_distances l))) k

module _ (s held : List ℕ) where
  -- one chain more, in the code's shape
  pub held_on : (n t : ℕ) → held_of s held (n + 1) t ≡ held_of s held n t + η (held_at s held n) t * held_rate held n
  unfolding held_of
  held_on n t = ap (λ k. held_of s held k t) (add-one n)

  pub held_le : (n t : ℕ) → Held s held n → t ≤ latest → held_of s held n t ≤ n * busiest
  unfolding held_of
  held_le zero t h l = omega arith
  held_le (suc n) t h l =
      omega (
        arith,
        held_le n t (held-fewer s held n h) l,
        turns_le (h.lists n (le_refl (suc n))).good (η (held_at s held n) t) (held_rate held n) t (le_refl _) (h.cheap n (le_refl (suc n))) l,
      )

-- where the part is 0, it does not matter how many are counted
no_part : (m n part : ℕ) → part ≡ 0 → m * part ≡ n * part
no_part m n part e = rw e (mul-zero m ∙ sym (mul-zero n))

-- the parts of a load's demand for q activations in t, as the code works them out: each fits, and their sum is the demand
module _ (l : Load) (sound : Sound l) (q t : ℕ) (few : q ≤ max_activations) (near : t ≤ latest) where
  abbrev all : ℕ
  all = η (own_of l) t

  pub fixed_le : q * l.cost + l.once ≤ 100000000000
  fixed_le = omega (arith, mul-le-mul few sound.cheap, sound.once)

  pub sum_le : {sum : ℕ} → sum ≡ held_of l.bytes l.held l.count t → sum ≤ max_chains * busiest
  sum_le held = omega (arith, held, held_le l.bytes l.held l.count t sound.held near, mul-le-mul_right busiest sound.held.few)

  module _ {before mine : ℕ} (known : before ≤ all) (counted : mine ≡ (before when eqb l.part 0 else all)) where
    pub own-counted : mine ≤ all
    own-counted = le_trans (le_of_eq counted) (when_cases (λ n. n ≤ all) (eqb l.part 0) (λ e. known) (λ e. le_refl all))

    pub more_le : (mine - q) * l.part ≤ busiest
    more_le = turns_le sound.stands.good.list (mine - q) l.part t (le_trans (sub-le _ _) own-counted) (le_trans sound.part sound.cheap) near

    more-is : (mine - q) * l.part ≡ (all - q) * l.part
    more-is =
        ap (λ n. (n - q) * l.part) counted
        ∙ when_cases (λ n. (n - q) * l.part ≡ (all - q) * l.part) (eqb l.part 0) (λ e. no_part _ _ _ (eqb-true _ _ e)) (λ e. refl)

    module _ {past : ℕ} (rest : past ≡ mine - q) where
      pub past_le : past * l.part ≤ busiest
      past_le = rw rest more_le

      pub demand-is : {sum : ℕ} → sum ≡ held_of l.bytes l.held l.count t → q * l.cost + l.once + past * l.part + sum ≡ demand_in l q t
      unfolding demand_in
      demand-is held = omega (arith, ap (λ n. n * l.part) rest ∙ more-is, held)
