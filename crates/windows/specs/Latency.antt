-- K, latency, late and margin (01, 'Windows'), over a demand for q activations in t, the distance of n activations of
-- its chain, and its deadline.
use Rattle.std.specs.Prelude.{ℕ, zero, suc, ◌+◌, ◌-◌, List, [], ◌∷◌, Bool, true, eqb, ltb, leb, ℤ, pos, ◌-ℤ◌}
use Rattle.search.specs.Choice.{◌when◌else◌}
use Rattle.search.specs.Find.{first}
use Rattle.search.specs.Lists.{sum_of, most_of, some}
use Rattle.table.specs.Limits.{max_activations}
use Rattle.table.specs.Find.{row_of, find_of}
use Rattle.table.specs.Read.{by_verdict, read_table, table_of}
use Rattle.table.specs.declared.Row.{Row}
use Rattle.table.specs.declared.Table.{Table}
use Rattle.arrivals.specs.Arrivals.{Rule, δ}
use Rattle.table.specs.Record.{distances}
use Rattle.segments.specs.View.{View}
use Rattle.windows.specs.Demand.{demand_of, views_of}
use Rattle.windows.specs.Window.{window_of}
use Rattle.std.specs.declared.option.Option.TheVariants.{Some, None}
use Rattle.std.specs.declared.result.Result.{Result}
use Rattle.std.specs.declared.result.Result.TheVariants.{Ok, Err}
use Rattle.table.specs.declared.refusal.Refusal.{Refusal}
use Rattle.table.specs.declared.refusal.Refusal.TheVariants.{NoChain, PastHorizon, StillOpen}
use Rattle.windows.specs.Window.{Window}
use Rattle.windows.specs.declared.Figures.{Figures}
use Rattle.windows.specs.declared.Windows.{Windows}

-- how long a window is, 0 for none
abbrev pub long : Window → ℕ
long (Some t) = t
long None = 0

-- taking q = 1, 2, .. ends at q where there is no window B(q), or B(q) ≤ δ(q + 1)
abbrev pub ends : Window → ℕ → Bool
ends (Some t) next = leb t next
ends None next = true

-- the first q at which it ends, which is K where that has a window; one more than the limit where it's open still
unfoldable pub close_of : (ℕ → ℕ → ℕ) → (ℕ → ℕ) → ℕ
close_of demand distance = first (λ q. ends (window_of (demand q)) (distance (q + 1))) 1 max_activations

-- B(q) − δ(q)
unfoldable pub latency_at : (ℕ → ℕ → ℕ) → (ℕ → ℕ) → ℕ → ℕ
latency_at demand distance q = long (window_of (demand q)) - distance q

-- the activations up to one of them
unfoldable pub up_to : ℕ → List ℕ
up_to zero = []
up_to (suc q) = suc q ∷ up_to q

-- latency: the greatest B(q) − δ(q), q ≤ K, where K is `close`
unfoldable pub latency_to : (ℕ → ℕ → ℕ) → (ℕ → ℕ) → ℕ → ℕ
latency_to demand distance close = most_of (latency_at demand distance) (up_to close)

-- late: how many of them exceed the deadline
abbrev pub over_of : ℕ → ℕ → ℕ
over_of x deadline = 1 when ltb deadline x else 0

unfoldable pub late_to : (ℕ → ℕ → ℕ) → (ℕ → ℕ) → ℕ → ℕ → ℕ
late_to demand distance deadline close = sum_of (λ q. over_of (latency_at demand distance q) deadline) (up_to close)

-- whether one of them exceeds it; a window that is not there counts as one that does (up to K every combination's is there)
abbrev pub longer : Window → ℕ → Bool
longer (Some t) limit = ltb limit t
longer None limit = true

abbrev pub any_over : (ℕ → ℕ → ℕ) → (ℕ → ℕ) → ℕ → ℕ → Bool
any_over demand distance deadline close = some (λ q. longer (window_of (demand q)) (distance q + deadline)) (up_to close)

-- margin: deadline minus latency, signed
abbrev pub margin_of : ℕ → ℕ → ℤ
margin_of deadline latency = pos deadline -ℤ pos latency

-- figures by their four values
abbrev pub figures : ℕ → ℕ → ℕ → ℤ → Figures
figures close latency late margin = record { close = close; latency = latency; late = late; margin = margin }

-- what the windows give where they end at `close`, and its window is the last
abbrev pub ends_with : (ℕ → ℕ → ℕ) → (ℕ → ℕ) → ℕ → ℕ → Window → Result Windows Refusal
ends_with demand distance deadline close None = Err PastHorizon
ends_with demand distance deadline close (Some t) =
    Ok (record {
      figures = figures close (latency_to demand distance close) (late_to demand distance deadline close) (margin_of deadline (latency_to demand distance close));
      last = t;
    })

-- no solution, 16; q = 1,024 still open, 17
unfoldable pub windows_of : (ℕ → ℕ → ℕ) → (ℕ → ℕ) → ℕ → Result Windows Refusal
windows_of demand distance deadline =
    Err StillOpen when ltb max_activations (close_of demand distance) else
    ends_with demand distance deadline (close_of demand distance) (window_of (demand (close_of demand distance)))

-- what the latency query answers: the figures, or the refusal
abbrev pub Answer : Type 0
Answer = Result Figures Refusal

-- the figures of the windows
abbrev pub figures_of : Result Windows Refusal → Answer
figures_of (Ok w) = Ok w.figures
figures_of (Err n) = Err n

-- the query by a rule for distances
module _ (rule : Rule) where
  -- every figure of b is a function of its row and its views of the others
  unfoldable pub bound_of : Row → List View → Result Windows Refusal
  bound_of b views = windows_of (demand_of rule b views) (rule (distances b)) b.deadline

  -- those of a chain of a table, by its number there
  abbrev pub bound_at : Table → ℕ → Result Windows Refusal
  bound_at t chain = bound_of (row_of t chain) (views_of t chain)

  -- the chain with the id, 12 if there is none
  unfoldable pub latency_in : Table → ℕ → Answer
  latency_in t id = Err NoChain when eqb (find_of t id) t.count else figures_of (bound_at t (find_of t id))

  -- of a stored table, whose own refusals come first
  unfoldable pub latency_by : List ℕ → ℕ → Answer
  latency_by s id = by_verdict Err (read_table s).verdict (latency_in (table_of s) id)

-- what the latency query answers for the chain with the id, of a stored table: distances are those of δ
abbrev pub latency_of : List ℕ → ℕ → Answer
latency_of = latency_by δ

-- the values of an answer: K, latency, late, margin, or none
abbrev pub values_of : Answer → List ℤ
values_of (Ok f) = pos f.close ∷ pos f.latency ∷ pos f.late ∷ f.margin ∷ []
values_of (Err n) = []
