-- From which cost on a set is called bad, by the demand of a load.
use Rattle.std.specs.Prelude.{ℕ, ◌+◌, ◌<◌, ◌≤◌, ◌≡◌, Bool, leb}
use Rattle.table.specs.Limits.{horizon, max_activations}
use Rattle.arrivals.specs.Arrivals.{δ}
use Rattle.windows.specs.Sieve.{any_above}
use Rattle.windows.specs.Code.Load.{Load, row_in, own_of, demand_in, Sound}

-- with that cost more, the demand is above some t up to `close` where an activation is due
abbrev pub above_in : Load → ℕ → ℕ → Bool
above_in l close cost = any_above (λ q t. demand_in l q t + cost) (δ (own_of l)) (row_in l).deadline close

-- what is asked for: each activation up to `close` starts within the horizon
pub record Starts (l : Load) (close : ℕ) : Type 0 where
  pub sound : Sound l
  pub few : close ≤ max_activations
  pub near : (q : ℕ) → 1 ≤ q → q ≤ close → δ (own_of l) q ≤ horizon

-- of the costs below `most` exactly those from r on are called bad
pub record CalledFrom (l : Load) (close most r : ℕ) : Type 0 where
  pub tells : (cost : ℕ) → cost < most → leb r cost ≡ above_in l close cost
