-- What an accepted table is: within every limit of document 01.
use Rattle.std.specs.Prelude.{ℕ, ◌+◌, ◌*◌, ◌-◌, ◌<◌, ◌≤◌, ◌≡◌, List, ◌⊎◌, length, get_or}
use Rattle.search.specs.Lists.{sum_of}
use Rattle.table.specs.Limits.{max_chains, max_tasks, max_all_tasks, max_distances, max_distance, max_largest, max_cost, max_priority, max_deadline, max_gap}
use Rattle.table.specs.Record.{gap_form, largest_form, blank, distances, known_of, largests}
use Rattle.table.specs.Find.{row_of, rows}
use Rattle.table.specs.declared.Row.{Row}
use Rattle.table.specs.declared.Table.{Table}

-- a list of distances: 1 to 8 of them, none falls, each is within the limit, and the last is above 0
pub record GoodDistances (ds : List ℕ) : Type 0 where
  pub some : 1 ≤ length ds
  pub few : length ds ≤ max_distances
  pub rises : (j : ℕ) → j + 1 < length ds → get_or ds j 0 ≤ get_or ds (j + 1) 0
  pub near : (j : ℕ) → get_or ds j 0 ≤ max_distance
  pub ends : 0 < get_or ds (length ds - 1) 0

pub record GoodTasks (priority cost : List ℕ) (tasks : ℕ) : Type 0 where
  pub some : 1 ≤ tasks
  pub few : tasks ≤ max_tasks
  pub priorities : (i : ℕ) → i < tasks → 1 ≤ get_or priority i 0
  pub priorities_max : (i : ℕ) → get_or priority i 0 ≤ max_priority
  pub costs : (i : ℕ) → i < tasks → 1 ≤ get_or cost i 0
  pub costs_max : (i : ℕ) → get_or cost i 0 ≤ max_cost
  pub priorities_past : (i : ℕ) → tasks ≤ i → get_or priority i 0 ≡ 0
  pub costs_past : (i : ℕ) → tasks ≤ i → get_or cost i 0 ≡ 0

-- a list of largest distances beside the smallest: as many, none falls, each is within the limit and no less than the smallest for its count
pub record GoodLargests (ds ls : List ℕ) : Type 0 where
  pub rises : (j : ℕ) → j + 1 < length ls → get_or ls j 0 ≤ get_or ls (j + 1) 0
  pub near : (j : ℕ) → get_or ls j 0 ≤ max_largest
  pub above : (j : ℕ) → j < length ls → get_or ds j 0 ≤ get_or ls j 0

-- as many distances as it says, and 0 past them; a known gap times n is no less than the distance of n + 1 activations; what its form lacks
-- is 0
pub record GoodRow (r : Row) : Type 0 where
  pub form : (r.form ≡ gap_form) ⊎ (r.form ≡ largest_form)
  pub id : 1 ≤ r.id
  pub kind : r.kind ≤ 1
  pub overload : r.overload ≤ 1
  pub deadline : 1 ≤ r.deadline
  pub deadline_max : r.deadline ≤ max_deadline
  pub gap_max : r.gap ≤ max_gap
  pub gap_form_holds : r.form ≡ largest_form → r.gap ≡ 0
  pub flag : r.flag ≤ 1
  pub flag_form : r.form ≡ gap_form → r.flag ≡ 0
  pub list : GoodDistances (distances r)
  pub listed : length (distances r) ≡ r.listed
  pub list_past : (j : ℕ) → r.listed ≤ j → get_or r.list j 0 ≡ 0
  pub gaps : 0 < r.gap → (j : ℕ) → j < r.listed → get_or (distances r) j 0 ≤ r.gap * (j + 1)
  pub largest : GoodLargests (distances r) (largests r)
  pub largest_listed : length (largests r) ≡ known_of r
  pub largest_past : (j : ℕ) → known_of r ≤ j → get_or r.largest j 0 ≡ 0
  pub tasks : GoodTasks r.priority r.cost r.tasks

pub record GoodTable (t : Table) : Type 0 where
  pub some : 1 ≤ t.count
  pub few : t.count ≤ max_chains
  pub row : (chain : ℕ) → chain < t.count → GoodRow (row_of t chain)
  pub forms : (chain : ℕ) → chain < t.count → (row_of t chain).form ≡ (row_of t 0).form
  pub ids : (chain other : ℕ) → chain < t.count → other < t.count → (row_of t chain).id ≡ (row_of t other).id → chain ≡ other
  pub past : (chain : ℕ) → t.count ≤ chain → chain < max_chains → row_of t chain ≡ blank
  pub size : length t.row ≡ max_chains
  pub tasks : t.tasks ≡ sum_of (λ r. r.tasks) (rows t)
  pub tasks_max : t.tasks ≤ max_all_tasks
