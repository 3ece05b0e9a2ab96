-- As many of the first i distances as there are before the last are put; then the last.
use Prim.Native.Nat.{min, ◌-◌}
use Rattle.slices.specs.Code.Wrote.{Wrote}
use Rattle.writing.specs.Rows.{list_bytes}
use Rattle.writing.proofs.put.put_list.Given as goal

abbrev pub invariant-loop-i : goal.invariant-loop-i
invariant-loop-i l = Wrote l.initial.out l.at (list_bytes l.list (min l.i (l.n - 1))) l.out l.next
