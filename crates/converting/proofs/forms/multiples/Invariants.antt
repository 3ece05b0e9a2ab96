-- The loop has stored the first i multiples, with 0 past them; `distance` is the next.
use Prim.Native.Nat.{◌≤◌, ◌+◌, ◌*◌}
use mathlib.Core.Path.{◌≡◌}
use Rattle.table.specs.Limits.{max_distances}
use Rattle.table.specs.Record.{pad}
use Rattle.converting.specs.Forms.{multiples}
use Rattle.converting.proofs.forms.multiples.Given as goal

abbrev pub invariant-loop-i : goal.invariant-loop-i
invariant-loop-i l = (l.i ≤ l.n) × (l.distance ≡ l.gap + l.gap * l.i) × (l.list ≡ pad max_distances (multiples l.gap l.i))
