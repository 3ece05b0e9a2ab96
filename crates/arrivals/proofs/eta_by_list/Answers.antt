-- `eta_by_list` meets its contract: what lies before the first distance, in the first list or past it.
use mathlib.Core.Path.{◌∙◌}
use native.Mathlib.Omega.{arith}
use Rattle.arrivals.proofs.Heads.{η-first}
use Rattle.arrivals.proofs.Rows.{lists_length, lists-some}
use Rattle.arrivals.proofs.eta_by_list.Goals as goal

pub as_listed-requires : goal.as_listed-requires
as_listed-requires c = (c.requires.0, lists-some c.requires.0)

pub returns-then-t-as_listed : goal.returns-then-t-as_listed
returns-then-t-as_listed c = c.below.ensures ∙ η-first c.requires.0.good c.args.t (omega (arith, c.if-t-as_listed.true, c.as_listed.ensures))

pub count_to-n-requires : goal.count_to-n-requires
count_to-n-requires c = (c.requires.0, omega (arith, c.listed_from-listed.ensures.0, lists_length c.requires.0, c.requires.0.good.few))
