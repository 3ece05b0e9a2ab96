-- Bad combinations (01, 'Misses'), over the demand of the chain beside those without overload mark, its distances and its deadline.
use Rattle.std.specs.Prelude.{ℕ, ◌+◌, Bool, ◌&&◌, List}
use Rattle.table.specs.declared.Row.{Row}
use Rattle.table.specs.Record.{distances}
use Rattle.arrivals.specs.Arrivals.{Rule, δ}
use Rattle.segments.specs.View.{View}
use Rattle.windows.specs.Demand.{demand_of, typical}
use Rattle.windows.specs.Latency.{any_over}
use Rattle.misses.specs.Overloads.{Piece}
use Rattle.misses.specs.Sets.{members, allowed, set_cost}

-- a combination's window drops all overload chains' terms and adds the set's costs once
abbrev pub with_cost : (ℕ → ℕ → ℕ) → ℕ → ℕ → ℕ → ℕ
with_cost demand cost q t = demand q t + cost

-- a set that costs so much is bad: for some q ≤ K, which is `close`, its window minus δ(q) exceeds the deadline
unfoldable pub over : (ℕ → ℕ → ℕ) → (ℕ → ℕ) → ℕ → ℕ → ℕ → Bool
over demand distance deadline close cost = any_over (with_cost demand cost) distance deadline close

-- a bad combination, by which costs are bad
unfoldable pub bad : (ℕ → Bool) → List Piece → ℕ → Bool
bad costly ps m = allowed ps m && costly (set_cost (members ps m))

-- a test of costs: which are bad for a chain b beside the chains of these views, for q up to `close`
abbrev pub Test : Type 0
Test = Row → List View → ℕ → ℕ → Bool

-- by the windows of each set: the exact test, by a rule for distances and by δ
abbrev pub windows_by : Rule → Test
windows_by rule b views close cost = over (demand_of rule b (typical views)) (rule (distances b)) b.deadline close cost

abbrev pub by_windows : Test
by_windows = windows_by δ
