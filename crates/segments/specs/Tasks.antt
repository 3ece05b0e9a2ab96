-- A chain's tasks, and how they stand to a chain b's priorities (01, 'Segments against chain b').
use Rattle.std.specs.Prelude.{ℕ, zero, suc, ◌+◌, ◌-◌, min, List, [], ◌∷◌, Bool, get_or, ltb, eqb}
use Rattle.search.specs.Choice.{◌when◌else◌}
use Rattle.search.specs.Lists.{sum_of, some}
use Rattle.table.specs.declared.Row.{Row}

-- a task: how many come before it in its chain, its priority and its cost
pub record Task : Type 0 where
  pub place : ℕ
  pub priority : ℕ
  pub cost : ℕ

-- n tasks, from the one with i before it on, of a list of priorities and a list of costs
unfoldable pub tasks_from : List ℕ → List ℕ → ℕ → ℕ → List Task
tasks_from ps cs zero i = []
tasks_from ps cs (suc n) i = record { place = i; priority = get_or ps i 0; cost = get_or cs i 0 } ∷ tasks_from ps cs n (i + 1)

abbrev pub tasks_of : Row → List Task
tasks_of r = tasks_from r.priority r.cost r.tasks 0

-- what tasks cost together, and what a chain costs
abbrev pub cost_of : List Task → ℕ
cost_of ts = sum_of (λ t. t.cost) ts

abbrev pub chain_cost : Row → ℕ
chain_cost a = cost_of (tasks_of a)

-- the lowest of the first n + 1 priorities
unfoldable pub lowest : List ℕ → ℕ → ℕ
lowest ps zero = get_or ps 0 0
lowest ps (suc n) = min (lowest ps n) (get_or ps (suc n) 0)

-- floor: b's lowest priority
abbrev pub floor_of : Row → ℕ
floor_of b = lowest b.priority (b.tasks - 1)

-- tail: the priority of b's last task
abbrev pub tail_of : Row → ℕ
tail_of b = get_or b.priority (b.tasks - 1) 0

-- a task lies below a level, or at it
abbrev pub below : ℕ → Task → Bool
below level t = ltb t.priority level

abbrev pub at_level : ℕ → Task → Bool
at_level level t = eqb t.priority level

-- another chain a is deferred if some task lies below the floor; otherwise it interferes freely
abbrev pub deferred : Row → Row → Bool
deferred a b = some (below (floor_of b)) (tasks_of a)

-- the tasks from the first up to, not including, the first that passes
unfoldable pub before : (Task → Bool) → List Task → List Task
before p [] = []
before p (t ∷ ts) = [] when p t else t ∷ before p ts

-- first-segment cost: the tasks from a's first up to, not including, the first below the floor; 0 if the first is below
abbrev pub first_cost : Row → Row → ℕ
first_cost a b = cost_of (before (below (floor_of b)) (tasks_of a))

-- b's own first part: the tasks before the first one at the floor
abbrev pub own_part : Row → ℕ
own_part b = cost_of (before (at_level (floor_of b)) (tasks_of b))
