-- What is left of the tasks has the first fault of all, and starts within the bytes.
use Prim.Native.Nat.{◌+◌, ◌*◌, ◌-◌}
use native.Mathlib.Nat.{add-zero, sub-zero}
use native.Mathlib.Omega.{arith}
use mathlib.Core.Path.{sym, ◌∙◌}
use Rattle.table.specs.Fault.{tasks_fault}
use Rattle.table.proofs.Firsts.{handed_on, then_stop, then_go}
use Rattle.table.proofs.Lists.{tasks-on, tasks-end}
use Rattle.table.proofs.Faultless.{task-right}
use Rattle.table.proofs.fault.tasks_fault.Goals as goal

pub loop-i-init : goal.loop-i-init
loop-i-init c = (omega arith, omega arith, simp (sub-zero, add-zero))

pub loop-i-preserved : goal.loop-i-preserved
loop-i-preserved c = let a = c.args in
    let i = c.loop-i.i in
    let f = c.task_fault in
    let there = (task-right _ _ (sym f.ensures ∙ c.in_ok-task_fault.was)).there in
    (omega arith, omega (arith, there), cc (tasks-on a.s.now a.n i a.at (omega arith), then_go f.result (tasks_fault a.s.now (a.n - (i + 1)) (a.at + 8 * (i + 1))) c.in_ok-task_fault.was))

pub returns-in_err-task_fault : goal.returns-in_err-task_fault
returns-in_err-task_fault c = let a = c.args in
    let i = c.loop-i.i in
    let first = then_stop c.task_fault.result (tasks_fault a.s.now (a.n - (i + 1)) (a.at + 8 * (i + 1))) c.in_err-task_fault.was in
    handed_on _ c.from_residual.ensures.1 ∙ sym c.in_err-task_fault.was ∙ cc (tasks-on a.s.now a.n i a.at (omega arith), first)

pub returns : goal.returns
returns c = let a = c.args in
    cc (tasks-end a.s.now a.n c.loop-i.i (a.at + 8 * c.loop-i.i) c.loop-i-test.false)
