-- Demand 3: what a chain is answered hangs on its own record and on what it sees of the other chains, and on nothing else of them.
use Rattle.std.specs.Prelude.{ℕ, ◌*◌, ◌≤◌, ◌≡◌, take, drop}
use mathlib.Core.List.{List, [], ◌∷◌, ◌++◌, map, flatten, Permᴰ}
use Rattle.search.specs.Lists.{All, Paired}
use Rattle.table.specs.Find.{rows}
use Rattle.table.specs.declared.Row.{Row}
use Rattle.table.specs.Record.{id_at, row_at, distances}
use Rattle.segments.specs.Tasks.{Task, tasks_of, cost_of, floor_of, tail_of, below, deferred, first_cost}
use Rattle.segments.specs.Segments.{cut_segments_of}
use Rattle.windows.specs.Latency.{latency_of}
use Rattle.misses.specs.Misses.{misses_of}
use Rattle.table.specs.Read.{table_of}
use Rattle.demands.specs.Chains.{IsTable, Has, chain_of, record_bytes, others_of}

-- two segments with the same cost and the same active-segment costs in any order
pub record SameSegment (x y : List (List Task)) : Type 0 where
  pub cost : cost_of (flatten x) ≡ cost_of (flatten y)
  pub actives : Permᴰ (map cost_of x) (map cost_of y)

-- the chains a and c agree in kind, overload mark, arrival list, free or deferred and first-segment cost against b, and their
-- segments against it pair off one to one
pub record Agrees (b a c : Row) : Type 0 where
  pub kind : a.kind ≡ c.kind
  pub overload : a.overload ≡ c.overload
  pub arrivals : distances a ≡ distances c
  pub defers : deferred a b ≡ deferred c b
  pub first : first_cost a b ≡ first_cost c b
  pub segments : Paired SameSegment (cut_segments_of a b) (cut_segments_of c b)

-- two accepted tables in which the id's records are the same bytes, and the other chains pair off one to one, each pair related by R
pub record Besides (R : Row → Row → Type 0) (s r : List ℕ) (id : ℕ) : Type 0 where
  pub one : Has s id
  pub two : Has r id
  pub own : record_bytes s id ≡ record_bytes r id
  pub others : Paired R (others_of s id) (others_of r id)

-- and each pair agrees against that chain
abbrev pub SameBesides : List ℕ → List ℕ → ℕ → Type 0
SameBesides s r id = Besides (Agrees (chain_of s id)) s r id

-- the answers for the id are equal, refusals included, the misses for every k
pub record Unmoved (s r : List ℕ) (id : ℕ) : Type 0 where
  pub latency : latency_of s id ≡ latency_of r id
  pub misses : (k : ℕ) → misses_of s id k ≡ misses_of r id k

-- two accepted tables with the same rows, in any order
pub record Reordered (s r : List ℕ) : Type 0 where
  pub one : IsTable s
  pub two : IsTable r
  pub rows : Permᴰ (rows (table_of s)) (rows (table_of r))

-- a and c differ in form, id, deadline, gap and largest distances at most
pub record SameWork (a c : Row) : Type 0 where
  pub kind : a.kind ≡ c.kind
  pub overload : a.overload ≡ c.overload
  pub listed : a.listed ≡ c.listed
  pub list : a.list ≡ c.list
  pub tasks : a.tasks ≡ c.tasks
  pub priority : a.priority ≡ c.priority
  pub cost : a.cost ≡ c.cost

-- tasks in a row that no cut parts, of which all but the first are at or above the tail, and all at or above the floor
pub record Uncut (floor tail : ℕ) (t : Task) (ts : List Task) : Type 0 where
  pub first : floor ≤ t.priority
  pub rest : All (λ u. (floor ≤ u.priority) × (tail ≤ u.priority)) ts

-- some tasks that no cut parts give way to others with the same cost together, the first of which stands to the tail as theirs did: one
-- task is cut in two, 6 and 4 become 5 and 5
pub data Regrouped (floor tail : ℕ) : List Task → List Task → Type 0 where
  none : Regrouped floor tail [] []
  kept : {x y : Task} {xs ys : List Task} → x.priority ≡ y.priority → x.cost ≡ y.cost → Regrouped floor tail xs ys → Regrouped floor tail (x ∷ xs) (y ∷ ys)
  group : {x y : Task} {us vs xs ys : List Task} → Uncut floor tail x us → Uncut floor tail y vs → below tail x ≡ below tail y
      → cost_of (x ∷ us) ≡ cost_of (y ∷ vs) → Regrouped floor tail xs ys → Regrouped floor tail (x ∷ (us ++ xs)) (y ∷ (vs ++ ys))

-- c is a with tasks within its active segments regrouped
pub record RegroupedTasks (b a c : Row) : Type 0 where
  pub kind : a.kind ≡ c.kind
  pub overload : a.overload ≡ c.overload
  pub arrivals : distances a ≡ distances c
  pub tasks : Regrouped (floor_of b) (tail_of b) (tasks_of a) (tasks_of c)

-- the new record differs from the old one in deadline, gap and largest distances at most
pub record DeadlineOrLargest (old new : List ℕ) : Type 0 where
  pub id : id_at new 0 ≡ id_at old 0
  pub work : SameWork (row_at old 0) (row_at new 0)

-- two calls of a C entry of n figures that return r and q, whatever the answer buffers held: the same number; where it is 0, the same
-- figure bytes, and the rest of each as it was; else all of each as it was
pub record SameCall (n : ℕ) (before after : List ℕ) (r : ℕ) (before' after' : List ℕ) (q : ℕ) : Type 0 where
  pub number : r ≡ q
  pub figures : r ≡ 0 → take (4 * n) after ≡ take (4 * n) after'
  pub rest : r ≡ 0 → (drop (4 * n) after ≡ drop (4 * n) before) × (drop (4 * n) after' ≡ drop (4 * n) before')
  pub refused : (r ≡ 0 → ⊥) → (after ≡ before) × (after' ≡ before')
