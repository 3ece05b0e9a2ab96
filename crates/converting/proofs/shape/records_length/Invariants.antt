-- At the loop's head n and the lengths from `chain` on make all; its record starts at `at`.
use Prim.Native.Nat.{◌+◌, ◌≤◌}
use mathlib.Core.Path.{◌≡◌}
use mathlib.Core.List.{map}
use lib.ListN.{drop}
use Rattle.search.specs.Lists.{sum_of}
use Rattle.table.specs.Find.{rows}
use Rattle.table.specs.Place.{length_of, place_of}
use Rattle.table.specs.Read.{table_of}
use Rattle.converting.specs.Forms.{converted}
use Rattle.converting.proofs.shape.records_length.Given as goal

abbrev pub invariant-loop : goal.invariant-loop
invariant-loop l = (l.counter ≤ (table_of l.s).count) × (l.at ≡ place_of (table_of l.s) l.counter)
    × (l.n + sum_of length_of (map (converted l.to) (drop l.counter (rows (table_of l.s)))) ≡ sum_of length_of (map (converted l.to) (rows (table_of l.s))))
