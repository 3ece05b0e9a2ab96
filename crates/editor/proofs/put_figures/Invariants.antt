-- The first i figures stand at the start of the buffer, and its rest is as it was.
use Prim.Native.Nat.{◌≤◌}
use mathlib.Core.Path.{◌≡◌}
use lib.ListN.{length, take}
use Rattle.editor.specs.Entry.{figure_bytes, starting_with}
use Rattle.editor.proofs.put_figures.Given as goal

abbrev pub invariant-loop-i : goal.invariant-loop-i
invariant-loop-i l = (l.i ≤ length l.figures) × (l.answer ≡ starting_with (figure_bytes (take l.i l.figures)) l.initial.answer) × (length l.answer ≡ length l.initial.answer)
