-- At the loop's head all chains fit exactly where those from `chain` on do; its record starts at `at`.
use Prim.Native.Nat.{◌≤◌}
use mathlib.Core.Path.{◌≡◌}
use lib.ListN.{drop}
use Rattle.search.specs.Lists.{every}
use Rattle.table.specs.Find.{rows}
use Rattle.table.specs.Place.{place_of}
use Rattle.table.specs.Read.{table_of}
use Rattle.converting.specs.Forms.{fits_form}
use Rattle.converting.proofs.shape.all_fit.Given as goal

abbrev pub invariant-loop : goal.invariant-loop
invariant-loop l = (l.counter ≤ (table_of l.s).count) × (l.at ≡ place_of (table_of l.s) l.counter) × (every (fits_form l.to) (drop l.counter (rows (table_of l.s))) ≡ every (fits_form l.to) (rows (table_of l.s)))
