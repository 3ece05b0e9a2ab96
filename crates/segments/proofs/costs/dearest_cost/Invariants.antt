-- The loop's invariant (`Compared`): the dearest segment is the dearer of `best` and what the tasks left make it.
use Prim.Native.Nat.{◌+◌}
use Rattle.table.specs.Record.{tasks_at, row_at}
use Rattle.segments.proofs.Costing.{Compared}
use Rattle.segments.proofs.costs.dearest_cost.Given as goal

abbrev pub invariant-loop-i : goal.invariant-loop-i
invariant-loop-i l = Compared (row_at l.s l.at).priority (row_at l.s l.at).cost (tasks_at l.s l.at) l.floor l.first.cost (l.first.len + 1) l.best l.sum l.i
