-- The loop's invariant (`Picking`): the best of the costs gone through is open, or none of them is.
use Rattle.misses.proofs.Settles.{Picking}
use Rattle.misses.proofs.settling.pick.Given as goal

abbrev pub invariant-loop-m : goal.invariant-loop-m
invariant-loop-m l = Picking l.ends l.costs l.sets l.best l.most l.m
