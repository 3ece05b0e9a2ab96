-- The loop's invariant: i of the active segments found are held after what was held before.
use Prim.Native.Nat.{◌+◌, ◌≤◌}
use mathlib.Core.Path.{◌≡◌}
use Rattle.misses.proofs.Gathers.{Adds}
use Rattle.misses.proofs.Pieces.beside.Given as goal

abbrev pub invariant-loop-i : goal.invariant-loop-i
invariant-loop-i l = (l.i ≤ l.found.count) × (l.p.chains ≡ l.initial.p.chains) × (l.p.count ≡ l.initial.p.count + l.i) × Adds l.found l.most l.initial.p l.p l.i
