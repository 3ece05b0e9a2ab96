-- `best_step` meets its contract. The loop's invariant: `best` is a best step of those below j.
use Prim.Native.Nat.{◌+◌, ◌≤◌}
use Rattle.table.specs.Code.Listed.{distances_from}
use Rattle.arrivals.proofs.Heads.{BestTo}
use Rattle.arrivals.proofs.head.best_step.Given as goal

abbrev pub invariant-loop-j : goal.invariant-loop-j
invariant-loop-j l = BestTo (distances_from l.s l.list) l.j l.best × (2 ≤ l.j) × (l.j ≤ l.listed + 1)
