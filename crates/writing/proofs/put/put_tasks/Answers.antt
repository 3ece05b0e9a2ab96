-- The first i tasks are put.
use native.Mathlib.Omega.{arith}
use mathlib.Core.Path.{◌≡◌, subst}
use Rattle.slices.specs.Code.Wrote.{Wrote}
use Rattle.slices.proofs.Writes.{wrote_none}
use Rattle.writing.specs.Rows.{task_bytes, tasks_bytes}
use Rattle.writing.proofs.Pieces.{tasks-length}
use Rattle.writing.proofs.Puts.{pieces_none, pieces-on}
use Rattle.writing.proofs.put.put_tasks.Goals as goal

pub loop-i-init : goal.loop-i-init
loop-i-init c = let a = c.args in
    rw (pieces_none (task_bytes a.priority.now a.cost.now)) (wrote_none a.out.now a.at (omega arith))

pub put_task-next-requires : goal.put_task-next-requires
put_task-next-requires c = let l = c.loop-i in
    omega (arith, c.requires.1, l.invariant.long, l.invariant.ends, tasks-length c.args.priority.now c.args.cost.now l.i)

pub loop-i-preserved : goal.loop-i-preserved
loop-i-preserved c = let a = c.args in
    let l = c.loop-i in
    pieces-on (task_bytes a.priority.now a.cost.now) l.i l.invariant c.put_task-next.ensures

pub returns : goal.returns
returns c = let a = c.args in
    let l = c.loop-i in
    let e : l.i ≡ a.n = omega arith in
    subst (λ n. Wrote a.out.now a.at (tasks_bytes a.priority.now a.cost.now n) l.out l.next) e l.invariant
