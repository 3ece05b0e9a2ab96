-- `held_at` meets its contract. The loop's invariant: the sum is what the first i chains add, and fits.
use Prim.Native.Nat.{◌≤◌, ◌*◌}
use mathlib.Core.Path.{◌≡◌}
use Rattle.windows.specs.Code.Load.{held_of}
use Rattle.windows.proofs.Bounds.{busiest}
use Rattle.windows.proofs.sieving.held_at.Given as goal

abbrev pub invariant-loop-i : goal.invariant-loop-i
invariant-loop-i l = (l.i ≤ l.n) × (l.sum ≡ held_of l.s l.held l.i l.t) × (l.sum ≤ l.i * busiest)
