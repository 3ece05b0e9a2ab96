-- `first_sum` meets its contract. The loop's invariant: the sums up to m are put, and those before m lie below t.
use Prim.Native.Nat.{ℕ, suc, ◌≤◌, ◌<◌}
use Rattle.table.specs.Code.Listed.{distances_from}
use Rattle.arrivals.specs.Arrivals.{δ}
use Rattle.arrivals.specs.Code.Sums.{SumsAt}
use Rattle.arrivals.proofs.head.first_sum.Given as goal

abbrev pub invariant-loop-m : goal.invariant-loop-m
invariant-loop-m l = (l.m ≤ l.most) × SumsAt (distances_from l.s l.list) l.m l.sums × ((i : ℕ) → i < l.m → δ (distances_from l.s l.list) (suc i) < l.t)
