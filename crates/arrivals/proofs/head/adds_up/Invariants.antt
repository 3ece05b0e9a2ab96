-- `adds_up` meets its contract. The loop's invariant: each step shorter than i adds up.
use Prim.Native.Nat.{ℕ, ◌≤◌, ◌<◌}
use Rattle.table.specs.Code.Listed.{distances_from}
use Rattle.arrivals.specs.Code.Sums.{AddsWith}
use Rattle.arrivals.proofs.head.adds_up.Given as goal

abbrev pub invariant-loop-i : goal.invariant-loop-i
invariant-loop-i l = (k : ℕ) → k < l.i → 1 ≤ k → AddsWith (distances_from l.s l.list) k
