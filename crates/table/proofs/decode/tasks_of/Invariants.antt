-- The loop has stored what the first i tasks hold, with 0 past them.
use Prim.Native.Nat.{◌≤◌, ◌-◌}
use mathlib.Core.Path.{◌≡◌}
use Rattle.table.specs.Record.{spaced, pad, priority_at, cost_at}
use Rattle.table.proofs.decode.tasks_of.Given as goal

abbrev pub invariant-loop-i : goal.invariant-loop-i
invariant-loop-i l = (l.i ≤ l.n) × (l.priority ≡ pad 16 (spaced (priority_at l.s) 8 l.i l.from)) × (l.cost ≡ pad 16 (spaced (cost_at l.s) 8 l.i l.from))
