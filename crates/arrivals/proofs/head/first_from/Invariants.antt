-- `first_from` meets its contract. The loop's invariant: those before r lie below t.
use Prim.Native.Nat.{ℕ, ◌%◌, ◌<◌, ◌≤◌}
use lib.ListN.{get_or}
use Rattle.table.specs.Limits.{max_distances}
use Rattle.arrivals.proofs.head.first_from.Given as goal

abbrev pub invariant-loop-r : goal.invariant-loop-r
invariant-loop-r l = (l.from ≤ l.r) × (l.r ≤ l.end) × ((i : ℕ) → l.from ≤ i → i < l.r → get_or l.sums (i % max_distances) 0 < l.t)
