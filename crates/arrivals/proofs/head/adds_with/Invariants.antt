-- `adds_with` meets its contract. The loop's invariant: a step of i adds up with each shorter than j.
use Prim.Native.Nat.{ℕ, ◌+◌, ◌≤◌, ◌<◌}
use mathlib.Core.List.{List}
use Rattle.table.specs.Code.Listed.{distances_from}
use Rattle.arrivals.specs.Arrivals.{as_listed, repeated}
use Rattle.arrivals.proofs.head.adds_with.Given as goal

abbrev pub Adds : List ℕ → ℕ → ℕ → Type 0
Adds ds i j = as_listed ds i + as_listed ds j ≤ repeated ds (i + j + 1)

abbrev pub invariant-loop-j : goal.invariant-loop-j
invariant-loop-j l = (k : ℕ) → k < l.j → 1 ≤ k → Adds (distances_from l.s l.list) l.i k
