-- An acceptable record has its first task's mark there.
use Prim.Native.Nat.{◌+◌, ◌≤◌}
use native.Mathlib.Omega.{arith}
use mathlib.Core.Path.{◌≡◌, ap, ◌∙◌}
use lib.ListN.{length}
use Rattle.table.specs.Bytes.{word}
use Rattle.table.specs.Record.{form_at, head_length, first_task}
use Rattle.table.specs.Fault.{mark_of}
use Rattle.salvaging.specs.Code.Walk.{is_task}
use Rattle.salvaging.proofs.Walks.{acceptable-says}
use Rattle.salvaging.proofs.Starts.{first-marked}
use Rattle.salvaging.proofs.walk.leads_to_task.Goals as goal
use Rattle.salvaging.proofs.walk.leads_to_task.Goals.{After-head_length, Else-s-at-2, After-tasks_part-tasks}

-- the length of the fixed part
head : (c : After-head_length) → c.head_length.result ≡ head_length (form_at c.args.s.now c.args.at)
head c = c.head_length.ensures.0 ∙ ap head_length c.form_at.ensures

pub returns-then-s-at : goal.returns-then-s-at
returns-then-s-at c t e = absurd (omega (arith, (acceptable-says c.args.s.now c.args.at t e).chain.head.there, c.if-s-at.true, head (goal.at.returns-then-s-at c).After-head_length, c.requires))

pub tasks_part-tasks-requires : goal.tasks_part-tasks-requires
tasks_part-tasks-requires c = omega (arith, c.if-s-at.false, head (goal.at.tasks_part-tasks-requires c).After-head_length, c.requires)

pub overflow_add-tasks : goal.overflow_add-tasks
overflow_add-tasks c = omega (arith, c.tasks_part-tasks.ensures.2)

-- where its first task stands
first-there : (c : After-tasks_part-tasks) → c.args.at + c.tasks_part-tasks.result.from ≡ first_task c.args.s.now c.args.at
first-there c = omega (arith, c.tasks_part-tasks.ensures.0)

pub returns-then-s-at-2 : goal.returns-then-s-at-2
returns-then-s-at-2 c t e = let f = first-marked c.args.s.now c.args.at t e in
    absurd (omega (arith, f.0, first-there (goal.at.returns-then-s-at-2 c).After-tasks_part-tasks, c.if-s-at-2.true, c.requires))

-- it is there
inside : (c : Else-s-at-2) → c.args.at + (c.tasks_part-tasks.result.from + 2) ≤ length c.args.s.now
inside c = omega (arith, c.if-s-at-2.false, c.requires)

pub overflow_add-at : goal.overflow_add-at
overflow_add-at c = omega (arith, inside (goal.at.overflow_add-at c).Else-s-at-2)

pub u16_at-requires : goal.u16_at-requires
u16_at-requires c = omega (arith, inside (goal.at.u16_at-requires c).Else-s-at-2)

pub returns : goal.returns
returns c t e = let bytes = c.args.s.now in
    let f = first-marked bytes c.args.at t e in
    c.is_task.ensures ∙ ap (λ w. is_task (mark_of w)) (c.u16_at.ensures ∙ ap (word 2 bytes) (first-there (goal.at.returns c).After-tasks_part-tasks)) ∙ ap is_task f.1
