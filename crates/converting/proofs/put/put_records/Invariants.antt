-- The records of the first chains are put; the record of `chain` starts at `at`.
use Prim.Native.Nat.{◌≤◌}
use mathlib.Core.Path.{◌≡◌}
use Rattle.table.specs.Place.{place_of}
use Rattle.table.specs.Read.{table_of}
use Rattle.slices.specs.Code.Wrote.{Wrote}
use Rattle.writing.specs.Code.Put.{row_records}
use Rattle.converting.specs.Convert.{rows_in}
use Rattle.converting.proofs.put.put_records.Given as goal

abbrev pub invariant-loop : goal.invariant-loop
invariant-loop l = (l.counter ≤ (table_of l.s).count) × (l.at ≡ place_of (table_of l.s) l.counter) × Wrote l.initial.out 0 (row_records (rows_in l.to l.s) l.counter) l.out l.next
