-- The loop's invariant: an overload chain may start again exactly where one from `chain` on may; its record starts at `at`.
use Prim.Native.Nat.{◌≤◌}
use mathlib.Core.Path.{◌≡◌}
use lib.ListN.{drop}
use Rattle.table.specs.Find.{rows}
use Rattle.table.specs.Place.{place_of}
use Rattle.table.specs.declared.Row.{Row}
use Rattle.table.specs.Read.{table_of}
use Rattle.search.specs.Lists.{some}
use Rattle.misses.specs.Overloads.{overloads}
use Rattle.misses.proofs.Starts.{starts}
use Rattle.misses.proofs.asking.any_again.Given as goal

abbrev pub invariant-loop : goal.invariant-loop
invariant-loop l = (l.counter ≤ (table_of l.s).count) × (l.at ≡ place_of (table_of l.s) l.counter)
    × ((b : Row) → some (starts l.t) (overloads b (drop l.counter (rows (table_of l.s)))) ≡ some (starts l.t) (overloads b (rows (table_of l.s))))
