-- The loop's invariant (`Compared`): the dearest segment is the dearer of `best` and what the tasks left make it.
use Prim.Native.Nat.{◌<◌, ◌+◌, max}
use native.Mathlib.Omega.{arith}
use mathlib.Core.Path.{◌≡◌, ap, ◌∙◌, sym}
use lib.ListN.{get_or}
use Rattle.table.specs.Record.{row_at}
use Rattle.table.specs.declared.Row.{Row}
use Rattle.segments.specs.Code.Held.{stretch_of}
use Rattle.segments.proofs.Steps.{ahead-first, ahead-fits}
use Rattle.segments.proofs.Costing.{compared_start, compared_low, compared_high, compared_end, dearest-more}
use Rattle.segments.proofs.costs.dearest_cost.Goals as goal
use Rattle.segments.proofs.costs.dearest_cost.Goals.{then-priority_at-floor, else-priority_at-floor}
use Rattle.segments.proofs.costs.dearest_cost.Goals.{In-loop-i, Start}

abbrev row : (c : Start) → Row
row c = row_at c.args.s.now c.args.at

-- the task i is there
within : (c : In-loop-i) → c.loop-i.i < ((row_at c.args.s.now c.args.at)).tasks
unfolding row_at
within c = omega (arith, c.tasks_at-i-end.ensures.0, c.loop-i-test.true)

pub tasks_at-i-end-requires : goal.tasks_at-i-end-requires
tasks_at-i-end-requires c = omega (arith, c.requires.0.there)

pub loop-i-init : goal.loop-i-init
unfolding row_at
loop-i-init c = compared_start _ _ _ _ _ _ (omega (arith, c.requires.1.deferred))

pub priority_at-requires : goal.priority_at-requires
unfolding row_at
priority_at-requires c = (c.requires.0, within c)

pub cost_at-sum-requires : goal.cost_at-sum-requires
unfolding row_at
cost_at-sum-requires c = (c.requires.0, within (goal.at.cost_at-sum-requires c).In-loop-i)

pub overflow_add-sum : goal.overflow_add-sum
overflow_add-sum c = let l = c.loop-i in
    let g = c.requires.0.good.tasks in
    omega (arith, g.few, g.costs_max l.i, c.cost_at-sum.ensures, l.invariant.fits, within (goal.at.overflow_add-sum c).In-loop-i)

pub loop-i-preserved : goal.loop-i-preserved
unfolding row_at
loop-i-preserved c =
    let l = c.loop-i in
    let h = within (goal.at.loop-i-preserved c).In-loop-i in
    let p = c.priority_at.ensures.0 in
    elim c.if-priority_at-floor.branch [
      | then-priority_at-floor w ↦
          let e : c.if-priority_at-floor.sum ≡ 0 = w.sum-is in
          let g : c.if-priority_at-floor.best ≡ max l.best l.sum = w.best-is ∙ w.max-best.ensures in
          rw (e, g) (compared_low _ _ _ _ _ _ l.best l.sum l.i l.invariant h (omega (arith, p, w.if-priority_at-floor.true)))
      | else-priority_at-floor w ↦
          let e : c.if-priority_at-floor.sum ≡ l.sum + get_or (row (goal.at.loop-i-preserved c).Start).cost l.i 0 = w.sum-is ∙ ap (λ x. l.sum + x) w.cost_at-sum.ensures in
          let g : c.if-priority_at-floor.best ≡ l.best = w.best-is in
          rw (e, g) (compared_high _ _ _ _ _ _ l.best l.sum l.i l.invariant h (omega (arith, p, w.if-priority_at-floor.false)) (c.requires.0.good.tasks.costs_max l.i))
    ]

pub overflow_add-sum-2 : goal.overflow_add-sum-2
unfolding row_at
overflow_add-sum-2 c = let l = c.loop-i in
    let g = c.requires.0.good.tasks in
    let d = c.requires.1.is ∙ ap stretch_of (sym (ahead-first (row (goal.at.overflow_add-sum-2 c).Start).priority (row (goal.at.overflow_add-sum-2 c).Start).cost (row (goal.at.overflow_add-sum-2 c).Start).tasks c.args.floor)) in
    let cost = ahead-fits (row (goal.at.overflow_add-sum-2 c).Start).priority (row (goal.at.overflow_add-sum-2 c).Start).cost (row (goal.at.overflow_add-sum-2 c).Start).tasks c.args.floor 0 c.args.first d g.costs_max in
    omega (arith, cost, g.few, l.invariant.inside, l.invariant.low, l.invariant.fits)

pub returns : goal.returns
unfolding row_at
returns c = let l = c.loop-i in
    c.max.ensures
    ∙ sym
    (dearest-more (row (goal.at.returns c).Start) c.args.floor c.args.first c.requires.1
    ∙ compared_end _ _ _ _ _ _ l.best l.sum l.i l.invariant (omega (arith, c.tasks_at-i-end.ensures.0, c.loop-i-test.false)))
