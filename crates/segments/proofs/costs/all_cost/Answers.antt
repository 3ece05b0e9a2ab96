-- The tasks at or above the floor make up the segments.
use mathlib.Core.Path.{ap, sym, ◌∙◌}
use Rattle.table.specs.Record.{row_at}
use Rattle.segments.specs.Tasks.{tasks_of}
use Rattle.segments.proofs.Costing.{all-kept}
use Rattle.segments.proofs.costs.all_cost.Goals as goal

pub returns : goal.returns
returns c = ap (λ x. x.cost) c.both_sides.ensures ∙ sym (all-kept c.args.floor (tasks_of (row_at c.args.s.now c.args.at)))
