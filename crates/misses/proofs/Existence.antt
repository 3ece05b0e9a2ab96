-- Where B(q) is there, so is the window of every combination, and it is no longer. Assumes nothing.
use Prim.Native.Nat.{ℕ, ◌≤◌}
use mathlib.Core.Path.{◌≡◌, sym}
use mathlib.Core.Bool.{true}
use mathlib.Core.List.{List, map}
use native.Mathlib.Omega.{arith}
use native.Mathlib.Nat.{le_trans, le_of_eq}
use Rattle.search.specs.Lists.{All}
use Rattle.table.specs.Code.Good.{GoodRow}
use Rattle.table.specs.declared.Row.{Row}
use Rattle.arrivals.specs.Arrivals.{δ}
use Rattle.segments.specs.View.{View, view_of}
use Rattle.windows.specs.Window.{window_of}
use Rattle.windows.specs.Demand.{demand_of, typical}
use Rattle.std.specs.declared.option.Option.TheVariants.{Some}
use Rattle.windows.proofs.Least.{window-at, window-fits}
use Rattle.arrivals.proofs.Distances.{δ-good}
use Rattle.windows.proofs.Comparing.{Paced}
use Rattle.windows.proofs.Growth.{demand-growing}
use Rattle.misses.specs.Overloads.{overloads, pieces_of}
use Rattle.misses.specs.Sets.{members, allowed, set_cost}
use Rattle.misses.specs.Bad.{with_cost}
use Rattle.misses.proofs.Worsening.{cost-growing}
use Rattle.misses.proofs.Prices.{allowed-together}
use Rattle.misses.proofs.Covers.{covered}

-- the set's costs take the place of the overload chains' terms, which add as much
module _ (b : Row) (l : List Row) (good : GoodRow b) (rows : All GoodRow l) (paced : Paced (typical (map (λ a. view_of a b) l))) where
  abbrev views : List View
  views = map (λ a. view_of a b) l

  abbrev set : ℕ → ℕ
  set m = set_cost (members (pieces_of (overloads b l)) m)

  set-fits : (q m t : ℕ) → 1 ≤ t → allowed (pieces_of (overloads b l)) m ≡ true → with_cost (demand_of δ b (typical views)) (set m) q t ≤ demand_of δ b views q t
  unfolding demand_of
  set-fits q m t h e = omega (arith, covered b t h l rows 0 m (allowed-together (pieces_of (overloads b l)) m e))

  -- the window of a combination is there where B(q) is, and no longer than it
  pub combination-window : (q m s : ℕ) → 1 ≤ q → window_of (demand_of δ b views q) ≡ Some s → allowed (pieces_of (overloads b l)) m ≡ true
      → (t : ℕ) × (window_of (with_cost (demand_of δ b (typical views)) (set m) q) ≡ Some t) × (t ≤ s)
  combination-window q m s h e a =
      let w = window-at (demand_of δ b views q) s e in
      window-fits (with_cost (demand_of δ b (typical views)) (set m) q) ((cost-growing (demand_of δ b (typical views)) (demand-growing δ-good b (typical views) good paced) (set m)).grows q h)
      s w.low w.high (le_trans (set-fits q m s w.low a) (le_of_eq (sym w.solves)))
