-- The id and the first i ids stand.
use Prim.Native.Nat.{◌+◌}
use mathlib.Core.Path.{◌≡◌}
use mathlib.Core.List.{◌∷◌}
use lib.ListN.{length, take}
use Rattle.writing.proofs.judged.after_id.Given as goal

abbrev pub invariant-loop-i : goal.invariant-loop-i
invariant-loop-i l = (length l.with ≡ 16) × (take (l.i + 1) l.with ≡ l.id ∷ take l.i l.ids)
