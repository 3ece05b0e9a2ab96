-- The loop's invariant: `low` is the lowest of the priorities passed.
use Prim.Native.Nat.{◌-◌}
use native.Mathlib.Omega.{arith}
use mathlib.Core.Path.{◌≡◌, ◌∙◌, sym, ap}
use Rattle.table.specs.Record.{tasks_at, row_at}
use Rattle.segments.specs.Tasks.{lowest}
use Rattle.segments.proofs.Levels.{lowest-one, lowest-on}
use Rattle.segments.proofs.tasks.floor_of.Goals as goal

pub tasks_at-i-end-requires : goal.tasks_at-i-end-requires
tasks_at-i-end-requires c = omega (arith, c.requires.there)

pub priority_at-low-requires : goal.priority_at-low-requires
unfolding row_at
priority_at-low-requires c = (c.requires, omega (arith, c.requires.good.tasks.some))

pub loop-i-init : goal.loop-i-init
unfolding row_at
loop-i-init c = (omega arith, omega (arith, c.requires.good.tasks.some), c.priority_at-low.ensures.0 ∙ sym (lowest-one (row_at c.args.s.now c.args.at).priority))

pub priority_at-requires : goal.priority_at-requires
priority_at-requires c = (c.requires, omega (arith, c.tasks_at-i-end.ensures.0, c.loop-i-test.true))

pub loop-i-preserved : goal.loop-i-preserved
loop-i-preserved c = let l = c.loop-i in
    let lower = sym (lowest-on (row_at c.args.s.now c.args.at).priority l.i l.invariant.0) in (
      omega arith,
      omega (arith, c.tasks_at-i-end.ensures.0, c.loop-i-test.true),
      rw (c.min-low.ensures, c.priority_at.ensures.0, l.invariant.2) lower,
    )

pub returns : goal.returns
unfolding row_at
returns c = let l = c.loop-i in
    let e : l.i ≡ tasks_at c.args.s.now c.args.at = omega (arith, c.tasks_at-i-end.ensures.0, c.loop-i-test.false) in
    l.invariant.2 ∙ ap (λ i. lowest (row_at c.args.s.now c.args.at).priority (i - 1)) e
