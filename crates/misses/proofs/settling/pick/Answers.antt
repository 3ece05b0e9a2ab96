-- The loop's invariant (`Picking`): the best of the costs gone through is open, or none of them is.
use native.Mathlib.Omega.{arith}
use Rattle.misses.proofs.Settles.{picking_none, picking_better, picking_worse, picking_done}
use Rattle.misses.proofs.settling.pick.Goals as goal
use Rattle.misses.proofs.settling.pick.Goals.{then-most-n, else-most-n}

pub loop-m-init : goal.loop-m-init
loop-m-init c = picking_none _ _ _

pub loop-m-preserved : goal.loop-m-preserved
loop-m-preserved c = let a = c.args in
    let l = c.loop-m in
    let n = c.inside-n in
    let more = c.loop-m-test.true in
    elim c.if-most-n.branch [
      | then-most-n w ↦ rw (w.best-is, w.most-is) (picking_better a.ends a.costs.now a.sets l.best l.most l.m n.result l.invariant more n.ensures w.if-most-n.true)
      | else-most-n w ↦ rw (w.best-is, w.most-is) (picking_worse a.ends a.costs.now a.sets l.best l.most l.m n.result l.invariant more n.ensures w.if-most-n.false)
    ]

pub returns : goal.returns
returns c = let l = c.loop-m in
    let a = c.args in
    picking_done a.ends a.costs.now a.sets l.best l.most l.m l.invariant c.requires (omega arith)
