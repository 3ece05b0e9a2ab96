-- Arrivals in the words of document 02, request 9, over a chain's listed distances: what δ and η are, and what the former δ of document 01 was;
-- and of document 02, request 7: what the largest distance is.
use Rattle.std.specs.Prelude.{ℕ, ◌+◌, ◌*◌, ◌-◌, ◌≤◌, ◌<◌, ◌≡◌, List, length, get_or}
use Rattle.search.specs.Find.{Greatest}
use Rattle.table.specs.Record.{gap_form}
use Rattle.table.specs.declared.Row.{Row}
use Rattle.arrivals.specs.Arrivals.{as_listed, repeated, Way, sum_of_steps, Best, δ, η, largest}

pub record ArrivalRules (ds : List ℕ) : Type 0 where
  -- δ(n + 1) is the greatest sum over all ways to write n as steps from 1 to the list's length, each step costing its listed distance
  pub ways : (n : ℕ) → Greatest (λ x. (steps : List ℕ) × Way ds n steps × (x ≡ sum_of_steps ds steps)) (δ ds (n + 1))
  -- so δ(1) = 0
  pub alone : δ ds 1 ≡ 0
  -- it adds up
  pub adds : (m n : ℕ) → δ ds (m + 1) + δ ds (n + 1) ≤ δ ds (m + n + 1)
  -- it is never below the former δ, and is that where two steps up to the list's length never come to more than that has for both
  pub former : (n : ℕ) → repeated ds n ≤ δ ds n
  pub as_before : ((i j : ℕ) → 1 ≤ i → i ≤ length ds → 1 ≤ j → j ≤ length ds → as_listed ds i + as_listed ds j ≤ repeated ds (i + j + 1)) → (n : ℕ) → δ ds n ≡ repeated ds n
  -- in closed form: there is a best step s, and with n past (s − 1)·L the last of n steps can be that one
  pub closed : (s : ℕ) × Best ds s × ((n : ℕ) → (s - 1) * length ds < n → δ ds (n + 1) ≡ as_listed ds s + δ ds (n - s + 1))
  -- η(0) = 0, and for t > 0 η(t) is the greatest n with δ(n) < t
  pub never : η ds 0 ≡ 0
  pub greatest : (t : ℕ) → 0 < t → Greatest (λ n. δ ds n < t) (η ds t)

-- the former δ: δ(1) = 0, and the listed distances are δ(2), δ(3), ..; with L listed, δ(1 + iL + j) = i·δ(L + 1) + δ(1 + j), 0 ≤ j < L
pub record FormerRules (ds : List ℕ) : Type 0 where
  pub alone : repeated ds 1 ≡ 0
  pub listed : (j : ℕ) → j < length ds → repeated ds (j + 2) ≡ get_or ds j 0
  pub turns : (i j : ℕ) → j < length ds → repeated ds (1 + i * length ds + j) ≡ i * repeated ds (length ds + 1) + repeated ds (1 + j)

-- the largest distance of k activations: in the form with a gap (k − 1) times that; with flag 1 it is 0 for one
-- activation and then as listed, and goes on by that former rule
pub record LargestRules (r : Row) : Type 0 where
  pub by_gap : r.form ≡ gap_form → (k : ℕ) → largest r k ≡ (k - 1) * r.gap
  pub alone : r.flag ≡ 1 → largest r 1 ≡ 0
  pub listed : r.flag ≡ 1 → (j : ℕ) → j < r.listed → largest r (j + 2) ≡ get_or r.largest j 0
  pub turns : r.flag ≡ 1 → (i j : ℕ) → j < r.listed → largest r (1 + i * r.listed + j) ≡ i * largest r (r.listed + 1) + largest r (1 + j)
