-- The limits of document 01, 'What the analyzer covers', and document 02, requests 7 and 8, each stated once; `Table::limits` ties the code's
-- constants to them.
use Rattle.std.specs.Prelude.{ℕ}
use Rattle.table.specs.declared.Limits.{Limits}

-- chains of a table
abbrev pub max_chains : ℕ
max_chains = 16

-- tasks of a chain
abbrev pub max_tasks : ℕ
max_tasks = 16

-- tasks of a table
abbrev pub max_all_tasks : ℕ
max_all_tasks = 64

-- arrival distances of a chain
abbrev pub max_distances : ℕ
max_distances = 8

-- a task's cost
abbrev pub max_cost : ℕ
max_cost = 1000000

-- a task's priority
abbrev pub max_priority : ℕ
max_priority = 65535

-- a chain's deadline
abbrev pub max_deadline : ℕ
max_deadline = 10000000

-- a chain's largest gap
abbrev pub max_gap : ℕ
max_gap = 10000000

-- an arrival distance
abbrev pub max_distance : ℕ
max_distance = 10000000

-- a largest distance (02, request 7)
abbrev pub max_largest : ℕ
max_largest = 80000000

-- a window
abbrev pub horizon : ℕ
horizon = 10000000

-- activations of a window
abbrev pub max_activations : ℕ
max_activations = 1024

-- a run's length k
abbrev pub max_run : ℕ
max_run = 1000

-- overload active segments of a miss query
abbrev pub max_overloads : ℕ
max_overloads = 6

-- an active segment's capacity
abbrev pub max_capacity : ℕ
max_capacity = 40

-- bytes of a table that begins with `CG`, and of any other (02, request 7)
abbrev pub max_bytes : ℕ
max_bytes = 1748

abbrev pub max_gap_bytes : ℕ
max_gap_bytes = 1284

-- bytes of what a table is salvaged from (02, request 8)
abbrev pub max_input : ℕ
max_input = 4096

-- all of them
abbrev pub limits : Limits
limits =
    record {
      chains = max_chains;
      tasks = max_tasks;
      total = max_all_tasks;
      distances = max_distances;
      cost = max_cost;
      priority = max_priority;
      deadline = max_deadline;
      gap = max_gap;
      distance = max_distance;
      largest = max_largest;
      horizon = horizon;
      activations = max_activations;
      run = max_run;
      overloads = max_overloads;
      capacity = max_capacity;
      bytes = max_bytes;
      gapbytes = max_gap_bytes;
      input = max_input;
    }
