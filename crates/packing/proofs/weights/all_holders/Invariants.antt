-- Only places.
use mathlib.Core.Path.{◌≡◌}
use lib.ListN.{length}
use Rattle.packing.proofs.weights.all_holders.Given as goal

abbrev pub invariant-loop-i : goal.invariant-loop-i
invariant-loop-i l = length l.out ≡ 6
