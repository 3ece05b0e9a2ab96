-- The bytes that rows have (01, 'Stored table'; 02, requests 2 and 7): of any rows, those that break a rule too.
use Rattle.std.specs.Prelude.{ℕ, zero, suc, min, ◌+◌, ◌<◌, ◌≡◌, Bool, ◌||◌, length, get_or, take, eqb}
use mathlib.Core.List.{List, [], ◌++◌, map, flatten}
use Rattle.search.specs.Choice.{◌when◌else◌}
use Rattle.table.specs.Limits.{max_distances, max_tasks}
use Rattle.table.specs.Bytes.{bytes_of}
use Rattle.table.specs.Record.{gap_form, largest_form, task_record, end_record, pad, distances, known_of, largests}
use Rattle.table.specs.declared.Row.{Row}

-- there is such a form
abbrev pub is_form : ℕ → Bool
is_form form = eqb form gap_form || eqb form largest_form

-- the mark of a form; where there is no such form 0 stands, which is no mark
unfoldable pub form_mark : ℕ → ℕ
form_mark form = form when is_form form else 0

-- the gap and the flag that a row of this form has: `CG` has no gap, any other no flag, and what it lacks is 0
unfoldable pub gap_of : ℕ → ℕ → ℕ
gap_of form gap = 0 when eqb form largest_form else gap

unfoldable pub flag_of : ℕ → ℕ → ℕ
flag_of form flag = flag when eqb form largest_form else 0

-- the four bytes of the gap, or the flag's one in its place
unfoldable pub gap_bytes : ℕ → ℕ → ℕ → List ℕ
gap_bytes form flag gap = bytes_of 1 flag when eqb form largest_form else bytes_of 4 gap

-- a count stands in one byte, one above 255 as 255
abbrev pub count_byte : ℕ → List ℕ
count_byte n = bytes_of 1 (min n 255)

-- the fixed part of a chain record: mark, id, kind, overload, deadline, gap or flag, list length, task count
unfoldable pub head_bytes : Row → List ℕ
head_bytes r =
    bytes_of 2 (form_mark r.form) ++ bytes_of 2 r.id ++ bytes_of 1 r.kind ++ bytes_of 1 r.overload ++ bytes_of 4 r.deadline
    ++ gap_bytes r.form r.flag r.gap ++ count_byte r.listed ++ count_byte r.tasks

-- a distance, and a task record
abbrev pub distance_bytes : List ℕ → ℕ → List ℕ
distance_bytes list j = bytes_of 4 (get_or list j 0)

abbrev pub task_bytes : List ℕ → List ℕ → ℕ → List ℕ
task_bytes priority cost i = task_record (get_or priority i 0) (get_or cost i 0)

-- n pieces, one after the other, from the one with number i on
unfoldable pub pieces : (ℕ → List ℕ) → ℕ → ℕ → List ℕ
pieces f zero i = []
pieces f (suc n) i = f i ++ pieces f n (i + 1)

-- the first n distances of a list, and the first n tasks
abbrev pub list_bytes : List ℕ → ℕ → List ℕ
list_bytes list n = pieces (distance_bytes list) n 0

abbrev pub tasks_bytes : List ℕ → List ℕ → ℕ → List ℕ
tasks_bytes priority cost n = pieces (task_bytes priority cost) n 0

-- the chain record: the fixed part, then as many distances as the count says, as many largest ones where they are known, and the tasks
unfoldable pub row_bytes : Row → List ℕ
row_bytes r =
    head_bytes r ++ list_bytes r.list r.listed ++ list_bytes r.largest (known_of r) ++ tasks_bytes r.priority r.cost r.tasks

-- the table: the chain records in order, and the end record with their number
unfoldable pub table_bytes : List Row → List ℕ
table_bytes rs = flatten (map row_bytes rs) ++ end_record (length rs)

-- the row with 0 for what its form lacks, and in the places past a count
abbrev pub cleared : Row → Row
cleared r =
    record {
      form = r.form;
      id = r.id;
      kind = r.kind;
      overload = r.overload;
      flag = flag_of r.form r.flag;
      deadline = r.deadline;
      gap = gap_of r.form r.gap;
      listed = r.listed;
      tasks = r.tasks;
      list = pad max_distances (distances r);
      largest = pad max_distances (largests r);
      priority = pad max_tasks (take r.tasks r.priority);
      cost = pad max_tasks (take r.tasks r.cost);
    }

-- each number but the two counts, which stand as at most 255, is of its field's width, and each list has its places: so is every row that
-- a program has
pub record Typed (r : Row) : Type 0 where
  pub form : r.form < 65536
  pub id : r.id < 65536
  pub kind : r.kind < 256
  pub overload : r.overload < 256
  pub flag : r.flag < 256
  pub deadline : r.deadline < 4294967296
  pub gap : r.gap < 4294967296
  pub list : (j : ℕ) → get_or r.list j 0 < 4294967296
  pub largest : (j : ℕ) → get_or r.largest j 0 < 4294967296
  pub priority : (i : ℕ) → get_or r.priority i 0 < 65536
  pub cost : (i : ℕ) → get_or r.cost i 0 < 4294967296
  pub list_places : length r.list ≡ max_distances
  pub largest_places : length r.largest ≡ max_distances
  pub priority_places : length r.priority ≡ max_tasks
  pub cost_places : length r.cost ≡ max_tasks
