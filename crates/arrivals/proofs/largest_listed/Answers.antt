-- `largest_listed` meets its contract: the definition at 0, and at j from j - 1.
use Prim.Native.Nat.{◌-◌}
use mathlib.Core.Path.{ap, sym, ◌∙◌}
use native.Mathlib.Omega.{arith}
use Rattle.table.proofs.Largests.{largests-at}
use Rattle.arrivals.specs.Arrivals.{as_listed}
use Rattle.arrivals.proofs.Lists.{listed-at}
use Rattle.arrivals.proofs.largest_listed.Goals as goal

pub returns-then-j-eq0 : goal.returns-then-j-eq0
unfolding as_listed
returns-then-j-eq0 c = sym (ap (as_listed _) c.if-j-eq0.true)

pub largest_at-requires : goal.largest_at-requires
largest_at-requires c = (c.requires.0, omega (arith, c.requires.1, c.if-j-eq0.false))

pub returns : goal.returns
returns c = c.largest_at.ensures ∙ sym (largests-at c.requires.0.good (c.args.j - 1)) ∙ sym (listed-at _ c.args.j (omega (arith, c.if-j-eq0.false)))
