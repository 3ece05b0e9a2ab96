-- Only places. Any weights are sound.
use mathlib.Core.Path.{◌≡◌}
use lib.ListN.{length}
use Rattle.packing.proofs.weights.share.Given as goal

abbrev pub invariant-loop-i : goal.invariant-loop-i
invariant-loop-i l = length l.shares ≡ length l.initial.shares
