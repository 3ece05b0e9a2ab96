-- `eta_past` meets its contract: a list that adds up is counted by 01's rule, any other by best steps.
use mathlib.Core.Path.{◌∙◌}
use native.Mathlib.Omega.{arith}
use Rattle.arrivals.proofs.Counts.{η-near}
use Rattle.arrivals.proofs.Heads.{adds-up-count}
use Rattle.arrivals.proofs.Rows.{lists-some}
use Rattle.arrivals.proofs.eta_past.Goals as goal

pub repeated_count-requires : goal.repeated_count-requires
repeated_count-requires c = (c.requires.0, omega (arith, c.requires.1, lists-some c.requires.0, η-near c.requires.0.good c.args.t), c.requires.2)

pub returns-then-adds_up : goal.returns-then-adds_up
returns-then-adds_up c = c.repeated_count.ensures ∙ adds-up-count c.requires.0.good (c.adds_up.ensures.so c.if-adds_up.true) c.args.t
