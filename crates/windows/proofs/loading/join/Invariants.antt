-- `join` meets its contract. The loop's invariant: the chains before the one counted stand beside it, and its record starts at `at`.
use Prim.Native.Nat.{◌≤◌}
use mathlib.Core.Path.{◌≡◌}
use Rattle.table.specs.Record.{row_at}
use Rattle.table.specs.Place.{place_of}
use Rattle.table.specs.Read.{table_of}
use Rattle.windows.specs.Code.Load.{views_between, load_of, Joined}
use Rattle.windows.proofs.loading.join.Given as goal

abbrev pub invariant-loop : goal.invariant-loop
invariant-loop l = (l.initial.counter ≤ l.counter) × (l.counter ≤ l.end) × (l.at ≡ place_of (table_of l.s) l.counter)
    × Joined (load_of l.s l.initial.l l.initial.held) (views_between l.others (table_of l.s) (row_at l.s l.initial.l.at) l.initial.counter l.counter) (load_of l.s l.l l.held)
