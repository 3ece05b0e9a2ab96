-- The loop's invariant (`Going`): what was passed and what is left make up the tasks before the first below the level.
use Prim.Native.Nat.{◌<◌}
use native.Mathlib.Omega.{arith}
use mathlib.Core.Path.{◌≡◌}
use Rattle.table.specs.Record.{row_at}
use Rattle.table.specs.declared.Row.{Row}
use Rattle.segments.proofs.Steps.{going_start, going_on, going_done, ahead-stop, ahead-end}
use Rattle.segments.proofs.tasks.ahead.Goals as goal
use Rattle.segments.proofs.tasks.ahead.Goals.{In-loop-i, Start}

abbrev row : (c : Start) → Row
row c = row_at c.args.s.now c.args.at

-- the task i is there
within : (c : In-loop-i) → c.loop-i.i < ((row_at c.args.s.now c.args.at)).tasks
unfolding row_at
within c = omega (arith, c.tasks_at-n.ensures.0, c.loop-i-test.true)

pub tasks_at-n-requires : goal.tasks_at-n-requires
tasks_at-n-requires c = omega (arith, c.requires.0.there)

pub loop-i-init : goal.loop-i-init
loop-i-init c = going_start _ _ _ _ _ c.requires.1

pub priority_at-requires : goal.priority_at-requires
unfolding row_at
priority_at-requires c = (c.requires.0, within c)

pub overflow_sub-result : goal.overflow_sub-result
overflow_sub-result c = omega (arith, c.loop-i.invariant.low)

pub returns-then-priority_at-level : goal.returns-then-priority_at-level
unfolding row_at
returns-then-priority_at-level c = let l = c.loop-i in
    going_done _ _ _ _ _ l.i l.cost l.invariant
    (ahead-stop _ _ _ _ l.i (within (goal.at.returns-then-priority_at-level c).In-loop-i) (omega (arith, c.priority_at.ensures.0, c.if-priority_at-level.true)))

pub cost_at-cost-requires : goal.cost_at-cost-requires
unfolding row_at
cost_at-cost-requires c = (c.requires.0, within (goal.at.cost_at-cost-requires c).In-loop-i)

pub overflow_add-cost : goal.overflow_add-cost
overflow_add-cost c = let l = c.loop-i in
    let g = c.requires.0.good.tasks in
    omega (arith, g.few, g.costs_max l.i, c.cost_at-cost.ensures, l.invariant.fits, l.invariant.low, within (goal.at.overflow_add-cost c).In-loop-i)

pub loop-i-preserved : goal.loop-i-preserved
unfolding row_at
loop-i-preserved c = let l = c.loop-i in
    rw c.cost_at-cost.ensures
    (going_on _ _ _ _ _ l.i l.cost l.invariant (within (goal.at.loop-i-preserved c).In-loop-i)
    (omega (arith, c.priority_at.ensures.0, c.if-priority_at-level.false)) (c.requires.0.good.tasks.costs_max l.i))

pub overflow_sub-result-2 : goal.overflow_sub-result-2
overflow_sub-result-2 c = omega (arith, c.loop-i.invariant.low)

pub returns : goal.returns
unfolding row_at
returns c = let l = c.loop-i in
    let end : c.tasks_at-n.result ≡ l.i = omega (arith, c.requires.1, c.tasks_at-n.ensures.0, l.auto.i-end, c.loop-i-test.false) in
    rw end (going_done _ _ _ _ _ l.i l.cost l.invariant (ahead-end _ _ _ _ l.i (omega (arith, c.tasks_at-n.ensures.0, c.loop-i-test.false))))
