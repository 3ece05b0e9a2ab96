-- `as_listed` meets its contract: the definition at 0, and at j from j - 1.
use mathlib.Core.Path.{ap, sym, ◌∙◌}
use native.Mathlib.Omega.{arith}
use Rattle.arrivals.specs.Arrivals.{as_listed}
use Rattle.arrivals.proofs.Lists.{listed-at}
use Rattle.arrivals.proofs.repetition.as_listed.Goals as goal

pub returns-then-j-eq0 : goal.returns-then-j-eq0
unfolding as_listed
returns-then-j-eq0 c = sym (ap (as_listed _) c.if-j-eq0.true)

pub distance_from-requires : goal.distance_from-requires
distance_from-requires c = (c.requires.0, omega (arith, c.requires.1, c.if-j-eq0.false))

pub returns : goal.returns
returns c = c.distance_from.ensures ∙ sym (listed-at _ c.args.j (omega (arith, c.if-j-eq0.false)))
