-- The fixed part, the list, the largest distances, the tasks.
use Prim.Native.Nat.{◌+◌}
use native.Mathlib.Omega.{arith}
use mathlib.Core.Path.{◌≡◌, ap, sym, ◌∙◌}
use lib.ListN.{get_or}
use Rattle.table.specs.Record.{head_length, list_place, tasks_at}
use borrow.Author.Tests.{lt-ltb}
use Rattle.search.specs.Choice.{◌when◌else◌}
use Rattle.table.specs.Fault.{◌then◌, head_fault, chain_fault}
use Rattle.table.proofs.Earlier.{table_before, table_before_lem}
use Rattle.table.proofs.Faultless.{HeadRight, head-right, ListRight, list_right, LargestRight, largest-right}
use Rattle.table.proofs.Forms.{tasks-before}
use Rattle.table.proofs.Firsts.{handed_on}
use Rattle.table.proofs.fault.chain_fault.Goals as goal
use Rattle.table.proofs.fault.chain_fault.Goals.{After-count_at, After-head_length, In_ok-head_fault, In_ok-list_fault, In_ok-largest_fault}

-- where the list would start
place : (c : After-head_length) → c.args.at + c.head_length.result ≡ list_place c.args.s.now c.args.at
place c = ap (λ n. c.args.at + n) (c.head_length.ensures.0 ∙ ap head_length c.form_at.ensures)

-- no fault of the fixed part, of the list, of the largest distances
head : (c : In_ok-head_fault) → HeadRight c.args.s.now c.args.at (table_before c.args.before.now)
head c = head-right _ _ _ (sym (c.head_fault.ensures _ (table_before_lem _)) ∙ c.in_ok-head_fault.was)

list : (c : In_ok-list_fault) → ListRight c.args.s.now c.args.at
list c = list_right _ _ (sym c.list_fault.ensures ∙ c.in_ok-list_fault.was)

largest : (c : In_ok-largest_fault) → LargestRight c.args.s.now c.args.at
largest c = largest-right _ _ (sym c.largest_fault.ensures ∙ c.in_ok-largest_fault.was)

tasks : (c : After-count_at) → c.count_at.result ≡ tasks_at c.args.s.now c.args.at
tasks c = c.count_at.ensures.0 ∙ ap (λ i. get_or c.args.s.now i 0) (tasks-before _ _ c.args.at ((let it : c.args.at + c.head_length.result ≡ list_place c.args.s.now c.args.at = ap (λ n. c.args.at + n) (c.head_length.ensures.0 ∙ ap head_length c.form_at.ensures) in it)))

pub returns-then-s-list : goal.returns-then-s-list
unfolding chain_fault head_fault ◌then◌ ◌when◌else◌
returns-then-s-list c t before = rw (← place (goal.at.returns-then-s-list c).After-head_length, lt-ltb _ _ c.if-s-list.true)

pub gap_at-gap-requires : goal.gap_at-gap-requires
gap_at-gap-requires c = omega (arith, place (goal.at.gap_at-gap-requires c).After-head_length, c.if-s-list.false)

pub head_fault-requires : goal.head_fault-requires
head_fault-requires c = (c.if-s-list.false, place (goal.at.head_fault-requires c).After-head_length, c.gap_at-gap.ensures, c.requires.1, c.requires.2)

pub list_fault-requires : goal.list_fault-requires
list_fault-requires c = (c.if-s-list.false, place (goal.at.list_fault-requires c).After-head_length, c.gap_at-gap.ensures, (head c).listed.0, (head c).listed.1)

pub largest_fault-requires : goal.largest_fault-requires
largest_fault-requires c = ((list c).there, place (goal.at.largest_fault-requires c).After-head_length, (head (goal.at.largest_fault-requires c).In_ok-head_fault).listed.1)

pub first_task-requires : goal.first_task-requires
first_task-requires c = (largest c).there

pub tasks_fault-requires : goal.tasks_fault-requires
tasks_fault-requires c = omega (arith, (largest (goal.at.tasks_fault-requires c).In_ok-largest_fault).there, c.first_task.ensures)

pub returns : goal.returns
unfolding chain_fault ◌then◌
returns c t before = rw (← c.head_fault.ensures t before, c.in_ok-head_fault.was, ← c.list_fault.ensures, c.in_ok-list_fault.was, ← c.largest_fault.ensures, c.in_ok-largest_fault.was, ← c.first_task.ensures, ← tasks (goal.at.returns c).After-count_at, ← c.tasks_fault.ensures)

pub returns-in_err-largest_fault : goal.returns-in_err-largest_fault
unfolding chain_fault ◌then◌
returns-in_err-largest_fault c t before = rw (handed_on _ c.from_residual-in_err-largest_fault.ensures.1, ← c.head_fault.ensures t before, c.in_ok-head_fault.was, ← c.list_fault.ensures, c.in_ok-list_fault.was, ← c.largest_fault.ensures, c.in_err-largest_fault.was)

pub returns-in_err-list_fault : goal.returns-in_err-list_fault
unfolding chain_fault ◌then◌
returns-in_err-list_fault c t before = rw (handed_on _ c.from_residual-in_err-list_fault.ensures.1, ← c.head_fault.ensures t before, c.in_ok-head_fault.was, ← c.list_fault.ensures, c.in_err-list_fault.was)

pub returns-in_err-head_fault : goal.returns-in_err-head_fault
unfolding chain_fault ◌then◌
returns-in_err-head_fault c t before = rw (handed_on _ c.from_residual.ensures.1, ← c.head_fault.ensures t before, c.in_err-head_fault.was)
