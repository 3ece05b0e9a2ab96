-- The loop's invariant: `low` is the lowest of the priorities passed.
use Prim.Native.Nat.{◌≤◌, ◌-◌}
use mathlib.Core.Path.{◌≡◌}
use Rattle.table.specs.Record.{tasks_at, row_at}
use Rattle.segments.specs.Tasks.{lowest}
use Rattle.segments.proofs.tasks.floor_of.Given as goal

abbrev pub invariant-loop-i : goal.invariant-loop-i
invariant-loop-i l = (1 ≤ l.i) × (l.i ≤ tasks_at l.s l.at) × (l.low ≡ lowest (row_at l.s l.at).priority (l.i - 1))
