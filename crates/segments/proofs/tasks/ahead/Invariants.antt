-- The loop's invariant (`Going`): what was passed and what is left make up the tasks before the first below the level.
use Rattle.table.specs.Record.{tasks_at, row_at}
use Rattle.segments.proofs.Steps.{Going}
use Rattle.segments.proofs.tasks.ahead.Given as goal

abbrev pub invariant-loop-i : goal.invariant-loop-i
invariant-loop-i l = Going (row_at l.s l.at).priority (row_at l.s l.at).cost (tasks_at l.s l.at) l.level l.from l.i l.cost
