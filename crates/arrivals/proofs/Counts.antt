-- Laws of η over a chain's distances: it is the greatest n with δ(n) < t, over every n. They rest on the laws of δ alone, and assume nothing.
use Prim.Native.Nat.{ℕ, ◌+◌, ◌*◌, ◌≤◌, ◌<◌}
use mathlib.Core.Path.{◌≡◌}
use mathlib.Core.List.{List}
use native.Mathlib.Omega.{arith}
use Rattle.search.specs.Find.{Greatest}
use Rattle.table.specs.Limits.{max_distances}
use Rattle.arrivals.specs.Arrivals.{δ, η}
use Rattle.arrivals.specs.Code.Bounds.{longest_span, farthest}
use Rattle.table.specs.Code.Good.{GoodDistances}
use Rattle.arrivals.proofs.Rules.{count-counts, count-stops, count-some, count-greatest, count-near, count-zero, count-mono}
use Rattle.arrivals.proofs.Distances.{δ-lawful}

module _ {ds : List ℕ} (good : GoodDistances ds) where
  -- activation n + 1 is counted where δ(n + 1) < t, and nothing past one where it is not
  pub η-counts : (n t : ℕ) → δ ds (n + 1) < t → n < η ds t
  η-counts = count-counts (δ-lawful good)

  pub η-stops : (n t : ℕ) → t ≤ δ ds (n + 1) → η ds t ≤ n
  η-stops = count-stops (δ-lawful good)

  -- η(t) is at least 1 for t > 0, and then it is the greatest n with δ(n) < t
  pub η-some : (t : ℕ) → 0 < t → 1 ≤ η ds t
  η-some = count-some (δ-lawful good)

  pub η-greatest : (t : ℕ) → 0 < t → Greatest (λ n. δ ds n < t) (η ds t)
  η-greatest = count-greatest (δ-lawful good)

  -- η(t) is at most L·t
  pub η-near : (t : ℕ) → η ds t ≤ max_distances * t
  η-near = count-near (δ-lawful good) good.few

  -- and in a time that is asked for it is below what `delta` takes
  pub η-farthest : (t : ℕ) → t ≤ longest_span → η ds t < farthest
  η-farthest t h = omega (arith, η-near t)

  pub η-zero : η ds 0 ≡ 0
  η-zero = count-zero (δ-lawful good)

  -- η never falls
  pub η-mono : (s t : ℕ) → s ≤ t → η ds s ≤ η ds t
  η-mono = count-mono (δ-lawful good)
