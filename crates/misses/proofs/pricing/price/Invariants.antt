-- The loop's invariant (`Priced`): the sum is what those of the set before i cost, and they may stand together with all others.
use Rattle.misses.proofs.Prices.{Priced}
use Rattle.misses.proofs.pricing.price.Given as goal

abbrev pub invariant-loop-i : goal.invariant-loop-i
invariant-loop-i l = Priced l.chain l.segment l.cost l.n l.m l.sum l.i
