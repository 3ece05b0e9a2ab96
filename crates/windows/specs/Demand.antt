-- The demand of a chain b (01, 'Windows'): what t has to equal for q activations of b. It goes by b's row and by b's views of the others, and by
-- a rule for distances, by which η counts.
use Rattle.std.specs.Prelude.{ℕ, ◌+◌, ◌*◌, ◌-◌, List, [], ◌∷◌, ◌++◌, map, Bool, take, drop, eqb}
use Rattle.search.specs.Choice.{◌when◌else◌}
use Rattle.search.specs.Lists.{sum_of}
use Rattle.table.specs.Find.{row_of, rows}
use Rattle.table.specs.declared.Row.{Row}
use Rattle.table.specs.declared.Table.{Table}
use Rattle.arrivals.specs.Arrivals.{Rule, count_by}
use Rattle.table.specs.Record.{distances}
use Rattle.segments.specs.Tasks.{chain_cost, own_part}
use Rattle.segments.specs.View.{View, view_of, all_of, dearest_of}

-- kind: 0 synchronous, 1 asynchronous
abbrev pub asynchronous : ℕ → Bool
asynchronous kind = eqb kind 1

-- b's own first part, which counts if b is asynchronous
unfoldable pub counted_part : Row → ℕ
counted_part b = own_part b when asynchronous b.kind else 0

module _ (rule : Rule) where
  -- what another chain adds in t: freely interfering, η(t) times its cost; deferred asynchronous, η(t) times first-segment cost
  -- plus all segment costs once; deferred synchronous, its dearest segment once (0 if none)
  unfoldable pub term_of : View → ℕ → ℕ
  term_of v t =
      count_by rule v.list t * all_of v when v.free else
      count_by rule v.list t * v.first + all_of v when asynchronous v.kind else
      dearest_of v

  -- q times b's cost; plus max(0, η_b(t) − q) times its own first part; plus what every other chain adds
  unfoldable pub demand_of : Row → List View → ℕ → ℕ → ℕ
  demand_of b views q t = q * chain_cost b + (count_by rule (distances b) t - q) * counted_part b + sum_of (λ v. term_of v t) views

-- every chain of a table but that one, in table order, and the views that it has of them
abbrev pub others : Table → ℕ → List Row
others t chain = take chain (rows t) ++ drop (chain + 1) (rows t)

unfoldable pub views_of : Table → ℕ → List View
views_of t chain = map (λ a. view_of a (row_of t chain)) (others t chain)

-- the views of chains without overload mark
unfoldable pub typical : List View → List View
typical [] = []
typical (v ∷ vs) = v ∷ typical vs when eqb v.overload 0 else typical vs
