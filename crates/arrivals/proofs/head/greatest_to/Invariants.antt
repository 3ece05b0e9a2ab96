-- `greatest_to` meets its contract. The loop's invariant: of the last steps below j none comes to more than `best`.
use Prim.Native.Nat.{◌+◌, ◌≤◌}
use Rattle.table.specs.Code.Listed.{distances_from}
use Rattle.arrivals.specs.Code.Sums.{GreatestTo}
use Rattle.arrivals.proofs.head.greatest_to.Given as goal

abbrev pub invariant-loop-j : goal.invariant-loop-j
invariant-loop-j l = (1 ≤ l.j) × (l.j ≤ l.most + 1) × GreatestTo (distances_from l.s l.list) l.m l.j l.best
