-- What an odometer has gone through. Packings and their uses are those of the crate `packing`.
use Rattle.std.specs.Prelude.{ℕ, ◌+◌, ◌*◌, ◌≤◌, ◌<◌, ◌≡◌, Bool, true, ◌⊎◌, get_or}
use Rattle.table.specs.Limits.{max_overloads}
use Rattle.packing.specs.Packing.{bit, sum_to, combinations, Packing, Reached, IsMost}
use Rattle.packing.specs.Code.Engine.{max_byte}
use Rattle.odometer.specs.declared.Odometer.{Odometer}

-- how often it uses the combination m
abbrev pub uses_of : Odometer → ℕ → ℕ
uses_of o m = get_or o.uses m 0

-- how much room it leaves the active segment i
abbrev pub left_of : Odometer → ℕ → ℕ
left_of o i = get_or o.left i 0

-- the order in which it counts: v comes before u where, of the last combination that they use differently often, v has fewer uses
pub record Before (v u : ℕ → ℕ) : Type 0 where
  pub at : ℕ
  pub there : at < combinations
  pub fewer : v at < u at
  pub alike : (m : ℕ) → at < m → m < combinations → v m ≡ u m

-- o stands at a packing of the bad combinations, with these capacities, and has gone through all that come before it: some packing has
-- o's `most` uses, and none of those gone through has more, nor has its own; where o is over, none at all has. Capacities are bytes
pub record Gone (bad : ℕ → Bool) (room : ℕ → ℕ) (o : Odometer) : Type 0 where
  pub bytes : (i : ℕ) → i < max_overloads → room i ≤ max_byte
  pub packing : Packing bad room (uses_of o)
  pub leaves : (i : ℕ) → i < max_overloads → sum_to combinations (λ m. uses_of o m * bit i m) + left_of o i ≡ room i
  pub total : sum_to combinations (uses_of o) ≡ o.total
  pub reached : Reached bad room o.most
  pub own : o.total ≤ o.most
  pub passed : (v : ℕ → ℕ) → Packing bad room v → Before v (uses_of o) → sum_to combinations v ≤ o.most
  pub all : o.over ≡ true → IsMost bad room o.most

-- there are capacities with which o has gone so far
pub record Going (bad : ℕ → Bool) (o : Odometer) : Type 0 where
  pub room : ℕ → ℕ
  pub gone : Gone bad room o

-- r has gone on from o, where it was to go n packings further: with whatever capacities o has gone so far, r has too; and where n is
-- not 0, r is over or stands at a later packing
pub record GoesOn (bad : ℕ → Bool) (n : ℕ) (o r : Odometer) : Type 0 where
  pub still : (room : ℕ → ℕ) → Gone bad room o → Gone bad room r
  pub later : 0 < n → (r.over ≡ true) ⊎ Before (uses_of o) (uses_of r)
