-- `within_list` meets its contract. The loop's invariant: n of the first j activations lie within x.
use Prim.Native.Nat.{◌≤◌}
use mathlib.Core.Path.{◌≡◌}
use Rattle.table.specs.Code.Listed.{listed_from, distances_from}
use Rattle.arrivals.specs.Code.WithinList.{within_list}
use Rattle.arrivals.proofs.repetition.within_list.Given as goal

abbrev pub invariant-loop-j : goal.invariant-loop-j
invariant-loop-j l = (l.n ≡ within_list (distances_from l.s l.list) l.x l.j) × (1 ≤ l.j) × (l.j ≤ listed_from l.s l.list)
