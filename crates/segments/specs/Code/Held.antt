-- How the code holds tasks and active segments.
use Rattle.std.specs.Prelude.{ℕ, ◌*◌, ◌-◌, ◌<◌, ◌≡◌, List, map, length}
use Rattle.search.specs.Choice.{◌when◌else◌}
use Rattle.search.specs.Lists.{sum_of}
use Rattle.table.specs.Limits.{max_tasks, max_cost}
use Rattle.table.specs.Record.{pad}
use Rattle.table.specs.declared.Row.{Row}
use Rattle.segments.specs.Tasks.{Task, tasks_from, tasks_of, cost_of, below, before}
use Rattle.segments.specs.Actives.{Active}
use Rattle.segments.specs.declared.tasks.Stretch.{Stretch}
use Rattle.segments.specs.declared.tasks.Sides.{Sides}
use Rattle.segments.specs.declared.Actives.{Actives}

-- the tasks of a chain after its first i
abbrev pub tasks_after : Row → ℕ → List Task
tasks_after r i = tasks_from r.priority r.cost (r.tasks - i) i

-- some tasks in a row: how many there are, and what they cost
abbrev pub stretch_of : List Task → Stretch
stretch_of ts = record { len = length ts; cost = cost_of ts }

-- how many tasks lie below a level, and what the others cost
abbrev pub sides_of : ℕ → List Task → Sides
sides_of level ts =
    record { low = sum_of (λ t. 1 when below level t else 0) ts; cost = sum_of (λ t. 0 when below level t else t.cost) ts }

-- the first stretch of a chain, where that is not the whole chain
pub record FirstOf (a : Row) (floor : ℕ) (first : Stretch) : Type 0 where
  pub is : first ≡ stretch_of (before (below floor) (tasks_of a))
  pub deferred : first.len < a.tasks

-- active segments: how many there are, and arrays that are 0 past the last
abbrev pub arrays_of : List Active → Actives
arrays_of l =
    record {
      count = length l;
      start = pad max_tasks (map (λ a. a.start) l);
      len = pad max_tasks (map (λ a. a.len) l);
      cost = pad max_tasks (map (λ a. a.cost) l);
      segment = pad max_tasks (map (λ a. a.segment) l);
    }

-- no chain costs more
abbrev pub dearest : ℕ
dearest = max_tasks * max_cost
