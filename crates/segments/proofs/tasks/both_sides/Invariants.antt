-- The loop's invariant (`Sided`): what was counted and what is left make up the whole.
use Rattle.table.specs.Record.{tasks_at, row_at}
use Rattle.segments.proofs.Costing.{Sided}
use Rattle.segments.proofs.tasks.both_sides.Given as goal

abbrev pub invariant-loop-i : goal.invariant-loop-i
invariant-loop-i l = Sided (row_at l.s l.at).priority (row_at l.s l.at).cost (tasks_at l.s l.at) l.level l.i l.low l.cost
