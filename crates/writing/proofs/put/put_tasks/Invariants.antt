-- The first i tasks are put.
use Rattle.slices.specs.Code.Wrote.{Wrote}
use Rattle.writing.specs.Rows.{tasks_bytes}
use Rattle.writing.proofs.put.put_tasks.Given as goal

abbrev pub invariant-loop-i : goal.invariant-loop-i
invariant-loop-i l = Wrote l.initial.out l.at (tasks_bytes l.priority l.cost l.i) l.out l.next
