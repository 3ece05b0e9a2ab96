-- The loop's invariant (`Passed`): a record starts at `at`, and, from the first on, no chain before it bears the id.
use Prim.Native.Nat.{◌-◌}
use lib.ListN.{length}
use Rattle.merging.specs.Code.Seeks.{Passed}
use Rattle.merging.proofs.states.seek.Given as goal

abbrev pub invariant-loop-at : goal.invariant-loop-at
invariant-loop-at l = Passed l.s l.id l.from l.at

abbrev pub decreases-loop-at : goal.decreases-loop-at
decreases-loop-at l = length l.s - l.at
