-- The loop's invariant (`Cutting`): the active segments found and those left are all of them.
use Prim.Native.Nat.{ℕ, ◌≤◌, ◌<◌, ◌+◌, ◌*◌}
use native.Mathlib.Omega.{arith}
use mathlib.Core.Path.{◌≡◌, ap, ◌∙◌}
use lib.Dec.{eqb}
use lib.ListN.{get_or}
use Rattle.search.specs.Choice.{◌when◌else◌}
use Rattle.table.specs.Limits.{max_tasks, max_cost}
use Rattle.table.specs.Record.{row_at}
use Rattle.table.specs.declared.Row.{Row}
use Rattle.segments.specs.Tasks.{tasks_of, below}
use Rattle.segments.specs.declared.Actives.{Actives}
use Rattle.segments.proofs.Steps.{ahead-inside, ahead-fits}
use Rattle.segments.proofs.Stretches.{stretches-length}
use Rattle.segments.proofs.Cuts.{Cutting, plus, cutting_start, cutting_low, cutting_on, cutting_end}
use Rattle.segments.proofs.cutting.active_segments.Goals as goal
use Rattle.segments.proofs.cutting.active_segments.Goals.{After-ahead-more, In-loop-i}

abbrev row : (c : In-loop-i) → Row
row c = row_at c.args.s.now c.args.at

abbrev last : (c : In-loop-i) → ℕ
last c = c.both_sides-both.result.low

-- the task i is there, and there is room for an active segment
within : (c : In-loop-i) → c.loop-i.i < (row c).tasks
unfolding row_at
within c = omega (arith, c.tasks_at-n.ensures.0, c.loop-i-test.true)

few : (c : In-loop-i) → (row c).tasks ≤ max_tasks
few c = c.requires.0.good.tasks.few

room : (c : In-loop-i) → c.loop-i.out.count < max_tasks
room c = omega (arith, (within c), (few c), ap (λ o. o.count) c.loop-i.invariant.is, c.loop-i.invariant.few)

inside : (c : After-ahead-more) → c.loop-i.i + 1 + c.ahead-more.result.len ≤ ((row_at c.args.s.now c.args.at)).tasks
unfolding row_at
inside c = ahead-inside _ _ _ c.args.tail (c.loop-i.i + 1) c.ahead-more.result c.ahead-more.ensures (omega (arith, c.tasks_at-n.ensures.0, c.loop-i-test.true))

fits : (c : After-ahead-more) → c.ahead-more.result.cost ≤ c.ahead-more.result.len * max_cost
fits c = ahead-fits _ _ _ c.args.tail (c.loop-i.i + 1) c.ahead-more.result c.ahead-more.ensures c.requires.0.good.tasks.costs_max

-- with it the active segment that starts at the task i is whole
abbrev found : (c : After-ahead-more) → Actives
found c = let l = c.loop-i in
    plus l.out l.i (c.ahead-more.result.len + 1) (get_or ((row_at c.args.s.now c.args.at)).cost l.i 0 + c.ahead-more.result.cost) (c.both_sides-both.result.low when eqb l.stretch 0 else l.stretch)

more : (c : After-ahead-more) → Cutting ((row_at c.args.s.now c.args.at)).priority ((row_at c.args.s.now c.args.at)).cost ((row_at c.args.s.now c.args.at)).tasks c.args.floor c.args.tail (c.both_sides-both.result.low) (found c) c.loop-i.stretch (c.loop-i.i + 1 + c.ahead-more.result.len)
unfolding row_at
more c = let l = c.loop-i in
    cutting_on _ _ _ _ _ _ l.out l.stretch l.i c.ahead-more.result l.invariant (omega (arith, c.tasks_at-n.ensures.0, c.loop-i-test.true)) (c.requires.0.good.tasks.few) c.requires.1
    (omega (arith, c.priority_at.ensures.0, c.if-priority_at-floor.false)) c.ahead-more.ensures

pub tasks_at-n-requires : goal.tasks_at-n-requires
tasks_at-n-requires c = omega (arith, c.requires.0.there)

pub both_sides-both-requires : goal.both_sides-both-requires
both_sides-both-requires c = c.requires.0

pub loop-i-init : goal.loop-i-init
loop-i-init c = cutting_start _ _ _ _ _ _ _ c.empty-out.ensures

pub priority_at-requires : goal.priority_at-requires
unfolding row_at
priority_at-requires c = (c.requires.0, within c)

pub overflow_add-stretch : goal.overflow_add-stretch
overflow_add-stretch c = omega (arith, within (goal.at.overflow_add-stretch c).In-loop-i, few (goal.at.overflow_add-stretch c).In-loop-i, c.loop-i.invariant.low)

pub overflow_add-i : goal.overflow_add-i
overflow_add-i c = omega (arith, within (goal.at.overflow_add-i c).In-loop-i, few (goal.at.overflow_add-i c).In-loop-i)

pub loop-i-smaller-then-priority_at-floor : goal.loop-i-smaller-then-priority_at-floor
unfolding row_at
loop-i-smaller-then-priority_at-floor c = omega (arith, within (goal.at.loop-i-smaller-then-priority_at-floor c).In-loop-i)

pub loop-i-preserved-then-priority_at-floor : goal.loop-i-preserved-then-priority_at-floor
unfolding row_at
loop-i-preserved-then-priority_at-floor c = let l = c.loop-i in
    cutting_low _ _ _ _ _ _ l.out l.stretch l.i l.invariant (within (goal.at.loop-i-preserved-then-priority_at-floor c).In-loop-i) (omega (arith, c.priority_at.ensures.0, c.if-priority_at-floor.true))

pub overflow_add-i-else-priority_at-floor : goal.overflow_add-i-else-priority_at-floor
overflow_add-i-else-priority_at-floor c =
    let b = (goal.at.overflow_add-i-else-priority_at-floor c).In-loop-i in
    omega (arith, within b, few b)

pub ahead-more-requires : goal.ahead-more-requires
unfolding row_at
ahead-more-requires c = (c.requires.0, omega (arith, within (goal.at.ahead-more-requires c).In-loop-i))

pub offset_bounds-out-j : goal.offset_bounds-out-j
offset_bounds-out-j c = omega (arith, room (goal.at.offset_bounds-out-j c).In-loop-i)

pub bounds-out-j : goal.bounds-out-j
bounds-out-j c = omega (arith, room (goal.at.bounds-out-j c).In-loop-i)

pub overflow_add-out : goal.overflow_add-out
overflow_add-out c = omega (arith, inside (goal.at.overflow_add-out c).After-ahead-more, few (goal.at.overflow_add-out c).In-loop-i)

pub offset_bounds-out-j-else-priority_at-floor : goal.offset_bounds-out-j-else-priority_at-floor
offset_bounds-out-j-else-priority_at-floor c = omega (arith, room (goal.at.offset_bounds-out-j-else-priority_at-floor c).In-loop-i)

pub bounds-out-j-else-priority_at-floor : goal.bounds-out-j-else-priority_at-floor
bounds-out-j-else-priority_at-floor c = omega (arith, room (goal.at.bounds-out-j-else-priority_at-floor c).In-loop-i)

pub cost_at-requires : goal.cost_at-requires
unfolding row_at
cost_at-requires c = (c.requires.0, within (goal.at.cost_at-requires c).In-loop-i)

pub overflow_add-out-else-priority_at-floor : goal.overflow_add-out-else-priority_at-floor
overflow_add-out-else-priority_at-floor c = let m = c.requires.0.good.tasks.costs_max c.loop-i.i in
    omega (arith, few (goal.at.overflow_add-out-else-priority_at-floor c).In-loop-i, m, c.cost_at.ensures, inside (goal.at.overflow_add-out-else-priority_at-floor c).After-ahead-more, fits (goal.at.overflow_add-out-else-priority_at-floor c).After-ahead-more)

pub offset_bounds-out-j-else-priority_at-floor-2 : goal.offset_bounds-out-j-else-priority_at-floor-2
offset_bounds-out-j-else-priority_at-floor-2 c = omega (arith, room (goal.at.offset_bounds-out-j-else-priority_at-floor-2 c).In-loop-i)

pub bounds-out-j-else-priority_at-floor-2 : goal.bounds-out-j-else-priority_at-floor-2
bounds-out-j-else-priority_at-floor-2 c = omega (arith, room (goal.at.bounds-out-j-else-priority_at-floor-2 c).In-loop-i)

pub offset_bounds-out-j-else-priority_at-floor-3 : goal.offset_bounds-out-j-else-priority_at-floor-3
offset_bounds-out-j-else-priority_at-floor-3 c = omega (arith, room (goal.at.offset_bounds-out-j-else-priority_at-floor-3 c).In-loop-i)

pub bounds-out-j-else-priority_at-floor-3 : goal.bounds-out-j-else-priority_at-floor-3
bounds-out-j-else-priority_at-floor-3 c = omega (arith, room (goal.at.bounds-out-j-else-priority_at-floor-3 c).In-loop-i)

pub overflow_add-out-else-priority_at-floor-2 : goal.overflow_add-out-else-priority_at-floor-2
overflow_add-out-else-priority_at-floor-2 c = omega (arith, room (goal.at.overflow_add-out-else-priority_at-floor-2 c).In-loop-i)

pub overflow_add-i-else-priority_at-floor-2 : goal.overflow_add-i-else-priority_at-floor-2
overflow_add-i-else-priority_at-floor-2 c =
    let b = (goal.at.overflow_add-i-else-priority_at-floor-2 c).After-ahead-more in
    let a = (goal.at.overflow_add-i-else-priority_at-floor-2 c).In-loop-i in
    omega (arith, inside b, few a)

pub overflow_add-i-else-priority_at-floor-3 : goal.overflow_add-i-else-priority_at-floor-3
overflow_add-i-else-priority_at-floor-3 c =
    let b = (goal.at.overflow_add-i-else-priority_at-floor-3 c).After-ahead-more in
    let a = (goal.at.overflow_add-i-else-priority_at-floor-3 c).In-loop-i in
    omega (arith, inside b, few a)

pub loop-i-smaller : goal.loop-i-smaller
unfolding row_at
loop-i-smaller c = omega (arith, within (goal.at.loop-i-smaller c).In-loop-i)

pub loop-i-preserved : goal.loop-i-preserved
unfolding row_at
loop-i-preserved c =
    let next : c.loop-i.i + (1 + c.ahead-more.result.len) ≡ c.loop-i.i + 1 + c.ahead-more.result.len = omega arith in
    rw (c.segment_of.ensures, c.cost_at.ensures, next) (more (goal.at.loop-i-preserved c).After-ahead-more)

pub returns : goal.returns
unfolding row_at
returns c = let l = c.loop-i in
    let low = ap (λ x. x.low + 1) c.both_sides-both.ensures in
    cutting_end _ _ _ _ _ _ l.out l.stretch l.i l.invariant (omega (arith, c.tasks_at-n.ensures.0, c.loop-i-test.false))
    (low ∙ stretches-length (below c.args.floor) (tasks_of (row_at c.args.s.now c.args.at)))
