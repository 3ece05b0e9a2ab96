-- The loop's invariant: the sets below m have their flags.
use mathlib.Core.Path.{◌≡◌}
use lib.Dec.{leb}
use lib.ListN.{get_or}
use Rattle.search.specs.Choice.{◌when◌else◌}
use Rattle.misses.proofs.Fills.{Filled}
use Rattle.misses.proofs.testing.flags.Given as goal

abbrev pub invariant-loop-m : goal.invariant-loop-m
invariant-loop-m l = Filled (λ k x. x ≡ (1 when leb l.lowest (get_or l.costs k 0) else 0)) 64 l.out l.m
