-- The loop's invariant: which costs are settled (`Settles`), and an open one, 0 where none is. Each round leaves less room between.
use mathlib.Core.Path.{◌≡◌, subst}
use native.Mathlib.Omega.{arith}
use Rattle.windows.specs.Code.Load.{load_of}
use Rattle.misses.specs.Code.Settling.{Picks}
use Rattle.misses.proofs.Worsening.{load_worsens}
use Rattle.misses.proofs.Settles.{settles_none, settles_tell}
use Rattle.misses.proofs.settling.lowest_bad.Goals as goal

pub pick-c-requires : goal.pick-c-requires
pick-c-requires c = c.requires.2

pub loop-c-init : goal.loop-c-init
loop-c-init c = let a = c.args in
    let worsens = load_worsens (load_of a.s.now a.own a.held.now) c.requires.0.sound a.close in
    (settles_none _ worsens c.requires.1, c.pick-c.ensures)

pub round-ends-requires : goal.round-ends-requires
round-ends-requires c = let p = c.requires in
    let l = c.loop-c in
    let z : l.c ≡ 0 → ⊥ = c.loop-c-test.true in
    (p.0, l.invariant.0, l.invariant.1.one (omega arith))

pub pick-c-requires-in-loop-c : goal.pick-c-requires-in-loop-c
pick-c-requires-in-loop-c c = c.requires.2

pub loop-c-smaller : goal.loop-c-smaller
loop-c-smaller c = c.round-ends.ensures.1

pub loop-c-preserved : goal.loop-c-preserved
loop-c-preserved c = (c.round-ends.ensures.0, c.pick-c-in-loop-c.ensures)

pub returns : goal.returns
returns c = let l = c.loop-c in
    let costs = c.args.costs.now in
    settles_tell _ l.ends costs _ l.invariant.0 (subst (Picks l.ends costs) c.loop-c-test.false l.invariant.1) c.requires.2
