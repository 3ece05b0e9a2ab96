-- The last task's priority, where it stands.
use native.Mathlib.Omega.{arith}
use mathlib.Core.Path.{ap, ◌∙◌}
use Prim.Native.Nat.{◌-◌}
use lib.ListN.{get_or}
use Rattle.table.specs.Record.{row_at}
use Rattle.segments.proofs.tasks.tail_of.Goals as goal

pub overflow_sub-tasks_at : goal.overflow_sub-tasks_at
unfolding row_at
overflow_sub-tasks_at c = omega (arith, c.tasks_at.ensures.0, c.requires.good.tasks.some)

pub priority_at-requires : goal.priority_at-requires
unfolding row_at
priority_at-requires c = (c.requires, omega (arith, c.tasks_at.ensures.0, c.requires.good.tasks.some))

pub returns : goal.returns
unfolding row_at
returns c = c.priority_at.ensures.0 ∙ ap (λ n. get_or (row_at c.args.s.now c.args.at).priority (n - 1) 0) c.tasks_at.ensures.0
