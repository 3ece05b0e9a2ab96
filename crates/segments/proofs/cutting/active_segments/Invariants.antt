-- The loop's invariant (`Cutting`): the active segments found and those left are all of them.
use Prim.Native.Nat.{◌-◌}
use Rattle.table.specs.Record.{tasks_at, row_at}
use Rattle.segments.proofs.Cuts.{Cutting}
use Rattle.segments.proofs.cutting.active_segments.Given as goal

abbrev pub invariant-loop-i : goal.invariant-loop-i
invariant-loop-i l = Cutting (row_at l.s l.at).priority (row_at l.s l.at).cost (tasks_at l.s l.at) l.floor l.tail l.both.low l.out l.stretch l.i

abbrev pub decreases-loop-i : goal.decreases-loop-i
decreases-loop-i l = tasks_at l.s l.at - l.i
