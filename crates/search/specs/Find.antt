-- Searches over a test on numbers, and the greatest number of which something holds.
use Rattle.std.specs.Prelude.{ℕ, zero, suc, ◌≤◌, Bool}
use Rattle.search.specs.Choice.{◌when◌else◌}

-- the first of s, s + 1, .., s + n - 1 that passes, s + n if none does
unfoldable pub first : (ℕ → Bool) → ℕ → ℕ → ℕ
first p s zero = s
first p s (suc n) = s when p s else first p (suc s) n

-- one more than the last of 0, 1, .., n - 1 that passes, 0 if none does
unfoldable pub last : (ℕ → Bool) → ℕ → ℕ
last p zero = 0
last p (suc n) = suc n when p n else last p n

-- n is the greatest number of which P holds
pub record Greatest (P : ℕ → Type 0) (n : ℕ) : Type 0 where
  pub holds : P n
  pub above : (m : ℕ) → P m → m ≤ n
