-- Costs that are settled, in the code's search for the lowest bad one.
use Rattle.std.specs.Prelude.{ℕ, ◌+◌, ◌*◌, ◌<◌, ◌≤◌, ◌≡◌, Bool, true, false, List, leb, get_or}
use Rattle.table.specs.Limits.{max_overloads, max_activations}
use Rattle.arrivals.specs.Arrivals.{δ}
use Rattle.windows.specs.Code.Load.{once_limit, Load, row_in, own_of, demand_in, Sound}
use Rattle.packing.specs.Packing.{combinations}
use Rattle.misses.specs.Bad.{over}
use Rattle.segments.specs.Code.Held.{dearest}
use Rattle.misses.specs.declared.Settled.{Settled}

-- a set that costs so much is bad, by the demand of a load
abbrev pub over_with : Load → ℕ → ℕ → Bool
over_with l close cost = over (demand_in l) (δ (own_of l)) (row_in l).deadline close cost

-- no set costs so much
abbrev pub beyond : ℕ
beyond = max_overloads * dearest + 1

-- costs of sets: none is beyond, and past the first `sets` they are 0
pub record Costs (costs : List ℕ) (sets : ℕ) : Type 0 where
  pub few : sets ≤ combinations
  pub within : (m : ℕ) → m < combinations → get_or costs m 0 < beyond
  pub past : (m : ℕ) → sets ≤ m → m < combinations → get_or costs m 0 ≡ 0

-- what a cost may be tried with: a load that has room for any set's
pub record Tries (l : Load) (close : ℕ) : Type 0 where
  pub sound : Sound l
  pub few : close ≤ max_activations
  pub room : l.once + beyond ≤ once_limit

-- no cost up to `good` is over, and each from `bad` on is, up to what no set costs
pub record Settles (over : ℕ → Bool) (s : Settled) : Type 0 where
  pub below : (c : ℕ) → c ≤ s.good → over c ≡ false
  pub above : (c : ℕ) → s.bad ≤ c → c < beyond → over c ≡ true
  pub apart : s.good < s.bad
  pub inside : s.bad ≤ beyond

-- c lies between the two: it is open whether it is over
pub record Open (s : Settled) (c : ℕ) : Type 0 where
  pub low : s.good < c
  pub high : c < s.bad

-- r is above 0 exactly where c is open
pub record Inside (s : Settled) (c r : ℕ) : Type 0 where
  pub some : Open s c → 0 < r
  pub is : 0 < r → Open s c

-- an open one of the costs, or 0 where none is
pub record Picks (s : Settled) (costs : List ℕ) (r : ℕ) : Type 0 where
  pub none : r ≡ 0 → (m : ℕ) → m < combinations → Open s (get_or costs m 0) → ⊥
  pub one : 0 < r → Open s r

-- exactly the costs from r on are over
abbrev pub BadFrom : (ℕ → Bool) → List ℕ → ℕ → Type 0
BadFrom over costs r = (m : ℕ) → m < combinations → leb r (get_or costs m 0) ≡ over (get_or costs m 0)
