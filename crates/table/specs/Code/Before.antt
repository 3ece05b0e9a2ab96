-- What the code keeps of the chains before a record.
use Rattle.std.specs.Prelude.{ℕ, ◌≡◌, List, map}
use Rattle.table.specs.declared.Row.{Row}
use Rattle.table.specs.declared.Table.{Table}
use Rattle.table.specs.declared.before.Before.{Before}

-- of the table so far: the ids that its rows bear, how many there are, and their tasks in all
pub record Keeps (before : Before) (t : Table) : Type 0 where
  pub bear : before.ids ≡ map (λ (r : Row). r.id) t.row
  pub count : before.count ≡ t.count
  pub tasks : before.tasks ≡ t.tasks
