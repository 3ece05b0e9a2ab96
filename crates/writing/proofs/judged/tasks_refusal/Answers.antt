-- None of the first i tasks has a wrong value.
use native.Mathlib.Omega.{arith}
use mathlib.Core.Path.{sym, ◌∙◌}
use mathlib.Core.Logic.{inl, inr}
use borrow.Author.Count.{below_more}
use borrow.Author.Tests.{ne_eqb}
use Rattle.search.proofs.Choice.{true-not-false}
use Rattle.table.proofs.Firsts.{or_none}
use Rattle.writing.proofs.Faults.{task-wrong, tasks-wrong, tasks-right}
use Rattle.writing.proofs.judged.tasks_refusal.Goals as goal
use Rattle.writing.proofs.judged.tasks_refusal.Goals.{then-priority-i-eq0-via-then-priority-i-eq0, then-priority-i-eq0-via-else-priority-i-eq0+then-outside}

pub loop-i-init : goal.loop-i-init
loop-i-init c = λ j h e. absurd (omega arith)

pub returns-then-priority-i-eq0 : goal.returns-then-priority-i-eq0
returns-then-priority-i-eq0 c = let a = c.args in
    let i = c.loop-i.i in
    sym (tasks-wrong a.priority.now a.cost.now a.n i (omega arith)
    (task-wrong a.priority.now a.cost.now i
    (elim c.then-priority-i-eq0.branch [
      | then-priority-i-eq0-via-then-priority-i-eq0 w ↦ inl w.if-priority-i-eq0.true
      | then-priority-i-eq0-via-else-priority-i-eq0+then-outside w ↦ inr (sym w.outside.ensures ∙ w.if-outside.true)
    ])))

pub loop-i-preserved : goal.loop-i-preserved
loop-i-preserved c = below_more _ _ c.loop-i.invariant
    (λ e. true-not-false e (or_none _ _ (ne_eqb _ _ c.if-priority-i-eq0.false) (sym c.outside.ensures ∙ c.if-outside.false)))

pub returns : goal.returns
returns c = let a = c.args in
    sym (tasks-right a.priority.now a.cost.now a.n (λ i h e. c.loop-i.invariant i (omega arith) e))
