-- Arrivals (01, 'Arrivals'; 02, requests 7 and 9), over a chain's listed distances: δ, η, and the largest distance.
use Rattle.std.specs.Prelude.{ℕ, zero, suc, max, ◌+◌, ◌*◌, ◌/◌, ◌%◌, ◌-◌, ◌≤◌, ◌≡◌, List, [], ◌∷◌, Bool, ◌&&◌, length, get_or, eqb, ltb}
use Rattle.search.specs.Choice.{◌when◌else◌}
use Rattle.search.specs.Find.{last}
use Rattle.search.specs.Lists.{sum_of, All}
use Rattle.table.specs.Record.{largests}
use Rattle.table.specs.declared.Row.{Row}

-- the distance of 1 + j activations as listed: 0 for one activation, and then the list
unfoldable pub as_listed : List ℕ → ℕ → ℕ
as_listed ds zero = 0
as_listed ds (suc j) = get_or ds j 0

-- a rule: the distance of n activations by a list
abbrev pub Rule : Type 0
Rule = List ℕ → ℕ → ℕ

-- 01's rule, by which largest distances go on: δ(1) = 0; with L listed and δ(L + 1) the last, δ(1 + iL + j) = i·δ(L + 1) + δ(1 + j), 0 ≤ j < L.
-- 01 has no δ(0): it is 0 here
unfoldable pub repeated : Rule
repeated ds zero = 0
repeated ds (suc m) = m / length ds * as_listed ds (length ds) + as_listed ds (m % length ds)

-- a way to write n as steps from 1 to the list's length (02, request 9)
pub record Way (ds : List ℕ) (n : ℕ) (steps : List ℕ) : Type 0 where
  pub each : All (λ j. (1 ≤ j) × (j ≤ length ds)) steps
  pub whole : sum_of (λ j. j) steps ≡ n

-- its sum: each step costs its listed distance
abbrev pub sum_of_steps : List ℕ → List ℕ → ℕ
sum_of_steps ds steps = sum_of (as_listed ds) steps

-- the greatest sum for n by the last step, from the greatest sums for n − 1, n − 2, .., 0: a step of j follows the j-th of them
unfoldable pub greatest : List ℕ → List ℕ → ℕ
greatest [] sums = 0
greatest (d ∷ ds) [] = 0
greatest (d ∷ ds) (x ∷ sums) = max (d + x) (greatest ds sums)

-- the greatest sums for n, n − 1, .., 0
unfoldable pub sums_to : List ℕ → ℕ → List ℕ
sums_to ds zero = 0 ∷ []
sums_to ds (suc n) = greatest ds (sums_to ds n) ∷ sums_to ds n

-- δ(n): the greatest sum over all ways to write n − 1 as such steps. It is worked out by the last step; that one way comes to it and none to more
-- is proved (`δ-ways`). δ(0) is 0 here
unfoldable pub δ : Rule
δ ds zero = 0
δ ds (suc m) = get_or (sums_to ds m) 0 0

-- s is a best step: none has a greater distance for its length. Past (s − 1)·L steps δ goes on by it
pub record Best (ds : List ℕ) (s : ℕ) : Type 0 where
  pub low : 1 ≤ s
  pub high : s ≤ length ds
  pub best : (j : ℕ) → 1 ≤ j → j ≤ length ds → as_listed ds j * s ≤ as_listed ds s * j

-- η(t) by a rule: the greatest n with δ(n) < t, and η(0) = 0. No n above L·t has δ(n) < t, so the search ends there
unfoldable pub count_by : Rule → List ℕ → ℕ → ℕ
count_by rule ds t = last (λ m. ltb (rule ds (suc m)) t) (length ds * t)

abbrev pub η : List ℕ → ℕ → ℕ
η = count_by δ

-- the largest distance of k activations: with flag 1 the listed largest ones, which go on by 01's rule; else (k − 1) times the gap. A row
-- of `CH` has flag 0, one of `CG` gap 0
unfoldable pub largest : Row → ℕ → ℕ
largest r k = repeated (largests r) k when eqb r.flag 1 else (k - 1) * r.gap

-- it is unknown: there is neither a gap nor a list
unfoldable pub unknown : Row → Bool
unknown r = eqb r.gap 0 && eqb r.flag 0
