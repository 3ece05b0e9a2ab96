-- The most uses: `mostUses` is the greatest number of uses that a packing has, whatever the packing. Assumes nothing.
use Prim.Native.Nat.{ℕ, zero, suc, ◌≤◌}
use mathlib.Core.Path.{◌≡◌, refl}
use mathlib.Core.Bool.{Bool, true}
use native.Mathlib.Omega.{arith}
use Rattle.search.proofs.Find.{last_hit, last-max, greatest_unique}
use Rattle.packing.specs.Packing.{sum_to, Packing, Reached, IsMost}
use Rattle.packing.specs.Most.{most_uses}
use Rattle.packing.specs.Code.Plain.{reach}
use Rattle.packing.proofs.Plain.{Below, reach-uses, uses-reach}
use Rattle.packing.proofs.Linear.{all_room}

module _ (bad : ℕ → Bool) (capacity : ℕ → ℕ) where
  pub reached : {k : ℕ} → reach bad 64 k capacity ≡ true → Reached bad capacity k
  reached {k} e =
      let u = reach-uses bad 64 k capacity e in
      record { uses = u.uses; packing = record { only = u.packing.only; within = u.packing.within }; total = u.total }

  below : {u : ℕ → ℕ} → Packing bad capacity u → Below bad 64 capacity u
  below p = record { only = p.only; within = p.within }

  pub reaches : {k : ℕ} → Reached bad capacity k → reach bad 64 k capacity ≡ true
  reaches {k} r = uses-reach bad 64 k capacity r.uses (below r.packing) r.total

  pub reached-room : {k : ℕ} → Reached bad capacity k → k ≤ sum_to 6 capacity
  reached-room r = omega (arith, r.total, all_room bad capacity r.uses (below r.packing))

  abbrev found : ℕ → Type 0
  found k = reach bad 64 k capacity ≡ true

  -- reached by one
  most-reached : (n : ℕ) → most_uses bad capacity ≡ n → found n
  unfolding most_uses reach
  most-reached zero e = refl
  most-reached (suc n) e = last_hit (λ k. reach bad 64 (suc k) capacity) (sum_to 6 capacity) n e

  -- exceeded by none
  most-above : (n : ℕ) → n ≤ sum_to 6 capacity → found n → n ≤ most_uses bad capacity
  unfolding most_uses
  most-above zero l e = omega arith
  most-above (suc n) l e = last-max (λ k. reach bad 64 (suc k) capacity) (sum_to 6 capacity) n l e

  pub most-greatest : IsMost bad capacity (most_uses bad capacity)
  most-greatest = record {
    holds = reached (most-reached (most_uses bad capacity) refl);
    above = λ n r. most-above n (reached-room r) (reaches r);
  }

  -- so whatever is the greatest is this number
  pub most-is : {n : ℕ} → IsMost bad capacity n → most_uses bad capacity ≡ n
  most-is g = greatest_unique most-greatest g

  pub most-room : most_uses bad capacity ≤ sum_to 6 capacity
  most-room = reached-room most-greatest.holds
