-- The loop's invariant (`Sided`): what was counted and what is left make up the whole.
use Prim.Native.Nat.{◌+◌, ◌<◌}
use native.Mathlib.Omega.{arith}
use mathlib.Core.Path.{◌≡◌, ap, ◌∙◌}
use lib.ListN.{get_or}
use Rattle.table.specs.Record.{tasks_at, row_at}
use Rattle.segments.proofs.Costing.{sided_start, sided_low, sided_high, sided_end}
use Rattle.segments.proofs.tasks.both_sides.Goals as goal
use Rattle.segments.proofs.tasks.both_sides.Goals.{then-priority_at-level, else-priority_at-level}
use Rattle.segments.proofs.tasks.both_sides.Goals.{In-loop-i}

-- the task i is there
within : (c : In-loop-i) → c.loop-i.i < tasks_at c.args.s.now c.args.at
within c = omega (arith, c.tasks_at-i-end.ensures.0, c.loop-i-test.true)

pub tasks_at-i-end-requires : goal.tasks_at-i-end-requires
tasks_at-i-end-requires c = omega (arith, c.requires.there)

pub loop-i-init : goal.loop-i-init
loop-i-init c = sided_start _ _ _ _

pub priority_at-requires : goal.priority_at-requires
priority_at-requires c = (c.requires, within c)

pub overflow_add-low : goal.overflow_add-low
overflow_add-low c = omega (arith, c.tasks_at-i-end.ensures.1, c.loop-i-test.true, c.loop-i.invariant.few)

pub cost_at-cost-requires : goal.cost_at-cost-requires
cost_at-cost-requires c = (c.requires, within (goal.at.cost_at-cost-requires c).In-loop-i)

pub overflow_add-cost : goal.overflow_add-cost
unfolding row_at
overflow_add-cost c = let good = c.requires.good.tasks in
    let l = c.loop-i in
    omega (arith, good.few, good.costs_max l.i, c.cost_at-cost.ensures, l.invariant.fits, within (goal.at.overflow_add-cost c).In-loop-i)

pub loop-i-preserved : goal.loop-i-preserved
loop-i-preserved c =
    let l = c.loop-i in
    let r = row_at c.args.s.now c.args.at in
    let h = within (goal.at.loop-i-preserved c).In-loop-i in
    elim c.if-priority_at-level.branch [
      | then-priority_at-level w ↦
          rw (w.low-is, w.cost-is) (sided_low _ _ _ _ l.i l.low l.cost l.invariant h (omega (arith, c.priority_at.ensures.0, w.if-priority_at-level.true)))
      | else-priority_at-level w ↦
          let e : c.if-priority_at-level.low ≡ l.low = w.low-is in
          let f : c.if-priority_at-level.cost ≡ l.cost + get_or r.cost l.i 0 = w.cost-is ∙ ap (λ x. l.cost + x) w.cost_at-cost.ensures in
          let m = c.requires.good.tasks.costs_max l.i in
          rw (e, f) (sided_high _ _ _ _ l.i l.low l.cost l.invariant h (omega (arith, c.priority_at.ensures.0, w.if-priority_at-level.false)) m)
    ]

pub returns : goal.returns
unfolding row_at
returns c = let r = row_at c.args.s.now c.args.at in
    let l = c.loop-i in
    sided_end r.priority r.cost r.tasks c.args.level l.i l.low l.cost l.invariant (omega (arith, c.tasks_at-i-end.ensures.0, c.loop-i-test.false))
