-- None of the first i distances falls; at each return the tests so far, in order.
use Rattle.writing.proofs.Faults.{Passed}
use Rattle.writing.proofs.judged.list_refusal.Given as goal

abbrev pub invariant-loop-i : goal.invariant-loop-i
invariant-loop-i l = Passed l.gap l.list l.n l.short l.before l.i
