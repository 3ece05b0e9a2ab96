-- `count_past` meets its contract. The loop's invariant: the sums up to m are put, and that before m, past the first list, lies below t.
-- Past the head the whole best steps and the remainder are those of η.
use Prim.Native.Nat.{◌+◌, ◌<◌, ◌≤◌}
use Rattle.table.specs.Code.Listed.{listed_from, distances_from}
use Rattle.arrivals.specs.Arrivals.{δ}
use Rattle.arrivals.specs.Code.Sums.{SumsAt}
use Rattle.arrivals.proofs.head.count_past.Given as goal

abbrev pub invariant-loop-m : goal.invariant-loop-m
invariant-loop-m l = (listed_from l.s l.list ≤ l.m) × (l.m ≤ l.head + 1) × SumsAt (distances_from l.s l.list) l.m l.sums × (listed_from l.s l.list < l.m → δ (distances_from l.s l.list) l.m < l.t)
