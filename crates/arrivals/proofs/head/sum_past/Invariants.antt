-- `sum_past` meets its contract. The loop's invariant: the sums up to `at` are put, the last eight of them.
use Prim.Native.Nat.{max, ◌≤◌}
use Rattle.table.specs.Code.Listed.{listed_from, distances_from}
use Rattle.arrivals.specs.Code.Sums.{SumsAt}
use Rattle.arrivals.proofs.head.sum_past.Given as goal

abbrev pub invariant-loop-at : goal.invariant-loop-at
invariant-loop-at l = (listed_from l.s l.list ≤ l.at) × (l.at ≤ max l.m (listed_from l.s l.list)) × SumsAt (distances_from l.s l.list) l.at l.sums
