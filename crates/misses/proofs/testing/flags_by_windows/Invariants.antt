-- The loop's invariant: the sets below m have their flags.
use Prim.Native.Nat.{◌≤◌}
use mathlib.Core.Path.{◌≡◌}
use lib.ListN.{get_or}
use Rattle.search.specs.Choice.{◌when◌else◌}
use Rattle.windows.specs.Code.Load.{load_of}
use Rattle.misses.specs.Code.Settling.{over_with}
use Rattle.misses.proofs.Fills.{Filled}
use Rattle.misses.proofs.testing.flags_by_windows.Given as goal

abbrev pub invariant-loop-m : goal.invariant-loop-m
invariant-loop-m l = (l.m ≤ l.sets) × Filled (λ k x. x ≡ (1 when over_with (load_of l.s l.own l.held) l.close (get_or l.costs k 0) else 0)) 64 l.out l.m
