-- The loop's invariant (`Gone`): the active segments of the overload chains before the chain j are held; its record starts at `at`.
use mathlib.Core.Path.{◌≡◌}
use Rattle.table.specs.Place.{place_of}
use Rattle.table.specs.Record.{row_at}
use Rattle.table.specs.Read.{table_of}
use Rattle.misses.proofs.Gathers.{Gone}
use Rattle.misses.proofs.Pieces.of.Given as goal

abbrev pub invariant-loop : goal.invariant-loop
invariant-loop l = (l.at ≡ place_of (table_of l.s) l.counter) × Gone (table_of l.s) (row_at l.s l.b) l.t l.p l.counter
