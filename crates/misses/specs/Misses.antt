-- The miss query (01, 'Misses' and 'Numbers given back'; 02, requests 3 and 7), by a rule for distances, and for any test that says which costs are
-- bad: by δ and by windows it is the miss count, by δ and the sieve (Sieve.antt) a number that this does not exceed.
use Rattle.std.specs.Prelude.{ℕ, ◌+◌, ◌*◌, min, Bool, not, List, eqb, ltb, length, get_or, ⊤}
use Rattle.search.specs.Choice.{◌when◌else◌}
use Rattle.table.specs.Limits.{max_run, max_overloads, max_capacity}
use Rattle.table.specs.Fault.{outside}
use Rattle.table.specs.Find.{row_of, find_of}
use Rattle.table.specs.Read.{by_verdict, read_table, table_of}
use Rattle.table.specs.declared.Row.{Row}
use Rattle.table.specs.declared.Table.{Table}
use Rattle.arrivals.specs.Arrivals.{Rule, δ, count_by, largest, unknown}
use Rattle.segments.specs.View.{View}
use Rattle.windows.specs.Demand.{others, views_of}
use Rattle.windows.specs.Latency.{bound_of}
use Rattle.windows.specs.declared.Windows.{Windows}
use Rattle.packing.specs.Most.{most_uses}
use Rattle.search.specs.Lists.{some}
use Rattle.misses.specs.Overloads.{Overload, overloads, pieces_of, capacities_of}
use Rattle.misses.specs.Bad.{bad, Test, windows_by, by_windows}
use Rattle.std.specs.declared.result.Result.{Result}
use Rattle.std.specs.declared.result.Result.TheVariants.{Ok, Err}
use Rattle.table.specs.declared.refusal.Refusal.{Refusal}
use Rattle.table.specs.declared.refusal.Refusal.TheVariants.{NoChain, BadRun, OverloadAsked, GapUnknown, TooManySegments, StartsAgain, CapacityAbove}

-- what the miss query answers: how many deadlines are missed, or the refusal
abbrev pub Answer : Type 0
Answer = Result ℕ Refusal

-- before any window: k outside 1..1,000; an overload chain; a chain whose largest distances are unknown, by gap 0 or flag 0
unfoldable pub early_of : Row → ℕ → Result ⊤ Refusal
early_of b k =
    Err BadRun when outside 1 max_run k else
    Err OverloadAsked when not (eqb b.overload 0) else
    Err GapUnknown when unknown b else
    Ok tt

-- the overload chains beside a chain of a table
abbrev pub overloads_of : Table → ℕ → List Overload
overloads_of t chain = overloads (row_of t chain) (others t chain)

-- capacity of each active segment of a, by a rule for distances: η_a(b's largest distance of k activations + latency) + 1
unfoldable pub room_of : Rule → Row → List Overload → ℕ → ℕ → List ℕ
room_of rule b os k latency = capacities_of rule (largest b k + latency) os

-- the bad combinations of a chain b beside the chains of these views, whose overload chains are `os`, by a test of costs, for q up to `close`,
-- which is the K of the full analysis
unfoldable pub bad_of : Test → Row → List View → List Overload → ℕ → ℕ → Bool
bad_of test b views os close m = bad (test b views close) (pieces_of os) m

-- the query by a rule and a test of costs
module _ (rule : Rule) (test : Test) where
  -- the misses of b in a run of k activations
  module _ (b : Row) (views : List View) (os : List Overload) (k : ℕ) where
    -- the packing figure: late times the most uses any packing of the bad combinations has
    unfoldable pub packing_figure : ℕ → ℕ → ℕ → ℕ
    packing_figure close latency late = late * most_uses (bad_of test b views os close) (λ i. get_or (room_of rule b os k latency) i 0)

    -- all k where the empty set is bad (by windows: a deadline is missed even without overload); else the smaller of k and the packing
    -- figure
    unfoldable pub missed_of : ℕ → ℕ → ℕ → ℕ
    missed_of close latency late = k when bad_of test b views os close 0 else min k (packing_figure close latency late)

    -- zero late activations answers 0; over 6 overload active segments; any overload chain, with segments or none, may start more
    -- than once in the last window; a capacity above 40; else so many are missed
    unfoldable pub by_figures : ℕ → ℕ → ℕ → ℕ → Answer
    by_figures close latency late last =
        Ok 0 when eqb late 0 else
        Err TooManySegments when ltb max_overloads (length (pieces_of os)) else
        Err StartsAgain when some (λ o. ltb 1 (count_by rule o.list last)) os else
        Err CapacityAbove when some (ltb max_capacity) (room_of rule b os k latency) else
        Ok (missed_of close latency late)

    -- 16 or 17, or the figures of the full analysis beside its last window
    abbrev pub by_bound : Result Windows Refusal → Answer
    by_bound (Ok w) = by_figures w.figures.close w.figures.latency w.figures.late w.last
    by_bound (Err n) = Err n

    -- what is refused before any window, or the windows decide
    abbrev pub unless_early : Result ⊤ Refusal → Answer
    unless_early (Ok u) = by_bound (bound_of rule b views)
    unless_early (Err n) = Err n

    unfoldable pub tested_beside : Answer
    tested_beside = unless_early (early_of b k)

  -- of a chain of a table, by its number there
  unfoldable pub tested_at : Table → ℕ → ℕ → Answer
  tested_at t chain k = tested_beside (row_of t chain) (views_of t chain) (overloads_of t chain) k

  -- of the chain with the id, 12 if there is none
  unfoldable pub tested_in : Table → ℕ → ℕ → Answer
  tested_in t id k = Err NoChain when eqb (find_of t id) t.count else tested_at t (find_of t id) k

  -- of a stored table, whose own refusals come first
  unfoldable pub tested_of : List ℕ → ℕ → ℕ → Answer
  tested_of s id k = by_verdict Err (read_table s).verdict (tested_in (table_of s) id k)

-- what the miss query answers for a run of k activations: bad is tested by windows, and distances are those of δ
abbrev pub misses_beside : Row → List View → List Overload → ℕ → Answer
misses_beside b views os k = tested_beside δ by_windows b views os k

abbrev pub misses_at : Table → ℕ → ℕ → Answer
misses_at t chain k = tested_at δ by_windows t chain k

-- of the chain with the id, of a stored table; by a rule for distances, and by δ
abbrev pub misses_by : Rule → List ℕ → ℕ → ℕ → Answer
misses_by rule s id k = tested_of rule (windows_by rule) s id k

abbrev pub misses_of : List ℕ → ℕ → ℕ → Answer
misses_of = misses_by δ
