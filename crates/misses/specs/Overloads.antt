-- The overload chains beside a chain b, and their active segments in a row (01, 'Misses').
use Rattle.std.specs.Prelude.{ℕ, ◌+◌, List, [], ◌∷◌, ◌++◌, map, eqb}
use Rattle.search.specs.Choice.{◌when◌else◌}
use Rattle.table.specs.declared.Row.{Row}
use Rattle.arrivals.specs.Arrivals.{Rule, count_by}
use Rattle.table.specs.Record.{distances}
use Rattle.segments.specs.Actives.{Active, actives_of}

-- an overload chain as b sees it: its listed distances, and its active segments by number
pub record Overload : Type 0 where
  pub list : List ℕ
  pub actives : List Active

abbrev pub overload : Row → Row → Overload
overload a b = record { list = distances a; actives = actives_of a b }

-- those with overload mark among some chains, in order
unfoldable pub overloads : Row → List Row → List Overload
overloads b [] = []
overloads b (a ∷ rows) = overloads b rows when eqb a.overload 0 else overload a b ∷ overloads b rows

-- an active segment of an overload chain, as a combination holds it: the number of its chain among the overload chains, the
-- number of its segment in the chain, and its cost
pub record Piece : Type 0 where
  pub chain : ℕ
  pub segment : ℕ
  pub cost : ℕ

abbrev pub piece : ℕ → Active → Piece
piece chain a = record { chain = chain; segment = a.segment; cost = a.cost }

-- the active segments of all: overload chains in table order, each one's active segments by number
unfoldable pub pieces_from : ℕ → List Overload → List Piece
pieces_from n [] = []
pieces_from n (o ∷ os) = map (piece n) o.actives ++ pieces_from (n + 1) os

abbrev pub pieces_of : List Overload → List Piece
pieces_of os = pieces_from 0 os

-- the capacity of each of them by a rule for distances, where t is b's largest distance of k activations + latency: η_a(t) + 1
unfoldable pub capacities_of : Rule → ℕ → List Overload → List ℕ
capacities_of rule t [] = []
capacities_of rule t (o ∷ os) = map (λ a. count_by rule o.list t + 1) o.actives ++ capacities_of rule t os
