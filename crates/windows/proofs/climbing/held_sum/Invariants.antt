-- `held_sum` meets its contract. The loop's invariant: the sum is what the first i chains add, and fits, and these are counted.
use Prim.Native.Nat.{◌≤◌, ◌*◌}
use mathlib.Core.Path.{◌≡◌}
use lib.ListN.{get_or}
use Rattle.table.specs.Limits.{max_chains}
use Rattle.windows.specs.Code.Load.{held_of}
use Rattle.windows.specs.Code.Climb.{Behind}
use Rattle.windows.proofs.Bounds.{busiest}
use Rattle.windows.proofs.climbing.held_sum.Given as goal

abbrev pub invariant-loop-i : goal.invariant-loop-i
invariant-loop-i l = (l.i ≤ l.n) × (l.sum ≡ held_of l.s l.held l.i l.t) × (l.sum ≤ l.i * busiest) × Behind l.s l.held l.i l.n l.t l.counts
    × (get_or l.counts max_chains 0 ≡ get_or l.initial.counts max_chains 0)
