-- How many are missed by two queries, where neither is refused: no more by the first, if what is bad in it is bad in the second, and its
-- capacities, its run and its late activations are no more. Assumes nothing.
use Prim.Native.Nat.{ℕ, ◌≤◌, min}
use mathlib.Core.Path.{◌≡◌, refl}
use mathlib.Core.Bool.{Bool, true, false}
use mathlib.Core.List.{List}
use native.Mathlib.Omega.{arith}
use native.Mathlib.Nat.{mul-le-mul}
use lib.ListN.{get_or}
use Rattle.search.specs.Choice.{◌when◌else◌}
use Rattle.search.proofs.Choice.{true-not-false}
use Rattle.table.specs.declared.Row.{Row}
use Rattle.arrivals.specs.Arrivals.{Rule}
use Rattle.segments.specs.View.{View}
use Rattle.packing.proofs.Laws.{most-rises}
use Rattle.misses.specs.Overloads.{Overload}
use Rattle.misses.specs.Bad.{Test}
use Rattle.misses.specs.Misses.{bad_of, room_of, packing_figure, missed_of}

module _ (rule other : Rule) (test wider : Test) (b c : Row) (vs ws : List View) (os ps : List Overload) (close far latency longer : ℕ) where
  abbrev room : ℕ → ℕ → ℕ
  room k i = get_or (room_of rule b os k latency) i 0

  abbrev rooms : ℕ → ℕ → ℕ
  rooms k i = get_or (room_of other c ps k longer) i 0

  pub missed_mono : {k long late more : ℕ} → k ≤ long → late ≤ more → ((x : ℕ) → bad_of test b vs os close x ≡ true → bad_of wider c ws ps far x ≡ true)
      → ((i : ℕ) → room k i ≤ rooms long i) → missed_of rule test b vs os k close latency late ≤ missed_of other wider c ws ps long far longer more
  unfolding missed_of packing_figure ◌when◌else◌
  missed_mono {k} {long} {late} {more} run lates bads wide = go (bad_of test b vs os close 0) refl (bad_of wider c ws ps far 0) refl
    where
      figures : packing_figure rule test b vs os k close latency late ≤ packing_figure other wider c ws ps long far longer more
      figures = mul-le-mul lates (most-rises (bad_of test b vs os close) (bad_of wider c ws ps far) (room k) (rooms long) (λ x s h e. bads x e) (λ i h. wide i))

      go : (t : Bool) → bad_of test b vs os close 0 ≡ t → (u : Bool) → bad_of wider c ws ps far 0 ≡ u
          → (k when t else min k (packing_figure rule test b vs os k close latency late)) ≤ (long when u else min long (packing_figure other wider c ws ps long far longer more))
      go true e true f = run
      go true e false f = absurd (true-not-false (bads 0 e) f)
      go false e true f = omega arith
      go false e false f = omega (arith, figures)
