-- `count_to` meets its contract: where the sums from 0 on reach t is the count.
use mathlib.Core.Path.{refl}
use Rattle.arrivals.proofs.Heads.{sums_none, first-min}
use Rattle.arrivals.proofs.head.count_to.Goals as goal

pub first_sum-requires : goal.first_sum-requires
first_sum-requires c = (c.requires.0, c.requires.1, sums_none _ _ refl refl)

pub returns : goal.returns
returns c = first-min c.requires.0.good c.args.t c.args.most c.first_sum.result c.first_sum.ensures.0
