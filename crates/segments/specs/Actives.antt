-- A chain's active segments by number (01, 'Segments against chain b').
use Rattle.std.specs.Prelude.{ℕ, ◌+◌, List, [], ◌∷◌, ◌++◌, map, length}
use Rattle.table.specs.declared.Row.{Row}
use Rattle.segments.specs.Tasks.{Task, tasks_of, cost_of, floor_of, tail_of}
use Rattle.segments.specs.Segments.{parts}

-- an active segment: how many tasks come before it in its chain, how many it has, what they cost, and the number of its
-- segment, by which the active segments of one segment are known
pub record Active : Type 0 where
  pub start : ℕ
  pub len : ℕ
  pub cost : ℕ
  pub segment : ℕ

unfoldable pub start_of : List Task → ℕ
start_of [] = 0
start_of (t ∷ ts) = t.place

abbrev pub active : ℕ → List Task → Active
active j ts = record { start = start_of ts; len = length ts; cost = cost_of ts; segment = j }

-- the active segments of the stretches j, j + 1, .., each of the segment that bears its stretch's number
unfoldable pub numbered : ℕ → List (List (List Task)) → List Active
numbered j [] = []
numbered j (p ∷ ps) = map (active j) p ++ numbered (j + 1) ps

-- from the first stretch on, in task order; the first stretch is of the last one's segment
unfoldable pub in_order : List (List (List Task)) → List Active
in_order [] = []
in_order (p ∷ ps) = map (active (length ps)) p ++ numbered 1 ps

-- active segments count from 1 in task order: the first of the list is number 1
unfoldable pub actives : ℕ → ℕ → List Task → List Active
actives floor tail ts = in_order (parts floor tail ts)

abbrev pub actives_of : Row → Row → List Active
actives_of a b = actives (floor_of b) (tail_of b) (tasks_of a)

-- no active segment: what stands past the end of the list
abbrev pub nothing : Active
nothing = record { start = 0; len = 0; cost = 0; segment = 0 }
