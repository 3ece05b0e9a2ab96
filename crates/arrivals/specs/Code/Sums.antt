-- How δ goes on after a head, which is what the code counts by, and the greatest sums as the code holds them.
use Rattle.std.specs.Prelude.{ℕ, suc, ◌+◌, ◌*◌, ◌-◌, ◌%◌, ◌<◌, ◌≤◌, ◌≡◌, List, ◌⊎◌, length, get_or}
use Rattle.table.specs.Limits.{max_distances}
use Rattle.arrivals.specs.Arrivals.{as_listed, repeated, δ}

-- a step of i and one of any length up to i come to no more than 01's rule has for them
pub record AddsWith (ds : List ℕ) (i : ℕ) : Type 0 where
  pub adds : (j : ℕ) → 1 ≤ j → j ≤ i → as_listed ds i + as_listed ds j ≤ repeated ds (i + j + 1)

-- so the repeated list adds up
pub record AddsUp (ds : List ℕ) : Type 0 where
  pub with : (i : ℕ) → 1 ≤ i → i ≤ length ds → AddsWith ds i

-- r is the better of two steps
pub record Better (ds : List ℕ) (a b r : ℕ) : Type 0 where
  pub one : (r ≡ a) ⊎ (r ≡ b)
  pub first : as_listed ds a * r ≤ as_listed ds r * a
  pub second : as_listed ds b * r ≤ as_listed ds r * b

-- so many steps can be without one of s: fewer than s others, each of the list's length at most
abbrev pub head_of : List ℕ → ℕ → ℕ
head_of ds s = (s - 1) * length ds

-- a head and one best step are no more
abbrev pub places : ℕ
places = max_distances * max_distances

-- the greatest sums of the last eight numbers of steps up to m: that of i stands at i % 8
pub record SumsAt (ds : List ℕ) (m : ℕ) (sums : List ℕ) : Type 0 where
  pub size : length sums ≡ max_distances
  pub at : (i : ℕ) → i ≤ m → m < i + max_distances → get_or sums (i % max_distances) 0 ≡ δ ds (suc i)

-- r is the first number of steps whose greatest sum is t or more, or `most`
pub record FirstSum (ds : List ℕ) (t most r : ℕ) : Type 0 where
  pub high : r ≤ most
  pub before : (i : ℕ) → i < r → δ ds (suc i) < t
  pub ends : (r ≡ most) ⊎ (t ≤ δ ds (suc r))

-- of the last steps below j for m none comes to more than `best`, and one to as much; it is 0 where there is none, and no more than δ
pub record GreatestTo (ds : List ℕ) (m j best : ℕ) : Type 0 where
  pub within : best ≤ δ ds (suc m)
  pub each : (i : ℕ) → 1 ≤ i → i < j → as_listed ds i + δ ds (suc (m - i)) ≤ best
  pub none : j ≡ 1 → best ≡ 0
  pub one : 1 < j → (i : ℕ) × (1 ≤ i) × (i < j) × (best ≡ as_listed ds i + δ ds (suc (m - i)))

-- a step is useful where it comes to more than shorter ones together
pub record Useful (ds : List ℕ) (j : ℕ) : Type 0 where
  pub more : (i : ℕ) → 1 ≤ i → i < j → as_listed ds i + δ ds (suc (j - i)) < as_listed ds j

-- the first n of these are steps up to m, all useful ones among them
pub record UsefulIn (ds : List ℕ) (m : ℕ) (steps : List ℕ) (n : ℕ) : Type 0 where
  pub size : length steps ≡ max_distances
  pub few : n ≤ m
  pub low : (k : ℕ) → k < n → 1 ≤ get_or steps k 0
  pub high : (k : ℕ) → k < n → get_or steps k 0 ≤ m
  pub all : (j : ℕ) → 1 ≤ j → j ≤ m → Useful ds j → (k : ℕ) × (k < n) × (get_or steps k 0 ≡ j)

-- r is the first from `from` on whose sum is t or more, or `end`
pub record FirstFrom (sums : List ℕ) (from end t r : ℕ) : Type 0 where
  pub low : from ≤ r
  pub high : r ≤ end
  pub before : (i : ℕ) → from ≤ i → i < r → get_or sums (i % max_distances) 0 < t
  pub ends : (r ≡ end) ⊎ (t ≤ get_or sums (r % max_distances) 0)
