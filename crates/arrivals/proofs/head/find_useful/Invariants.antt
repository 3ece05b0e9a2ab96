-- `find_useful` meets its contract. The loop's invariant: the sums below m are put, and the useful steps below m are found.
use Prim.Native.Nat.{◌+◌, ◌-◌, ◌≤◌}
use Rattle.table.specs.Code.Listed.{distances_from}
use Rattle.arrivals.specs.Code.Sums.{SumsAt, UsefulIn}
use Rattle.arrivals.proofs.head.find_useful.Given as goal

abbrev pub invariant-loop-m : goal.invariant-loop-m
invariant-loop-m l = (2 ≤ l.m) × (l.m ≤ l.listed + 1) × SumsAt (distances_from l.s l.list) (l.m - 1) l.sums × UsefulIn (distances_from l.s l.list) (l.m - 1) l.steps l.n
