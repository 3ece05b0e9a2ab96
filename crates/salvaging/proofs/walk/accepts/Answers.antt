-- The reader's judgement, asked only where a first task's mark stands.
use Prim.Native.Nat.{◌+◌, ◌≤◌}
use native.Mathlib.Omega.{arith}
use mathlib.Core.Path.{◌≡◌, refl, ap, sym, ◌∙◌}
use mathlib.Core.Bool.{Bool, true, false}
use lib.ListN.{length}
use Rattle.search.proofs.Choice.{true-not-false}
use Rattle.table.specs.Fault.{beside_fault}
use Rattle.std.specs.Prelude.{is_ok}
use Rattle.table.specs.Refusal.{Verdict}
use Rattle.table.specs.declared.Table.{Table}
use Rattle.salvaging.specs.Kept.{form_beside, acceptable}
use Rattle.salvaging.specs.Code.Walk.{least_head, Knows}
use Rattle.salvaging.proofs.Walks.{by-verdict, form_needed}
use Rattle.salvaging.proofs.Starts.{like_there, like_chain}
use Rattle.salvaging.proofs.walk.accepts.Goals as goal
use Rattle.salvaging.proofs.walk.accepts.Goals.{After-beside_fault, Start}

-- there is a mark
there : (c : Start) → c.args.at + least_head ≤ length c.args.s.now
there c = like_there c.args.s.now c.args.at c.requires.0

pub leads_to_task-requires : goal.leads_to_task-requires
leads_to_task-requires c = omega (arith, there (goal.at.leads_to_task-requires c).Start)

pub returns-then-not-leads_to_task : goal.returns-then-not-leads_to_task
returns-then-not-leads_to_task c t b = by (acceptable c.args.s.now c.args.at t) refl
  where
    by : (x : Bool) → acceptable c.args.s.now c.args.at t ≡ x → false ≡ x
    by true e = absurd (true-not-false (c.leads_to_task.ensures t e) (c.if-not-leads_to_task.true))
    by false e = refl

pub form_beside-needed-requires : goal.form_beside-needed-requires
form_beside-needed-requires c = omega (arith, there (goal.at.form_beside-needed-requires c).Start)

pub beside_fault-requires : goal.beside_fault-requires
beside_fault-requires c = (omega (arith, there (goal.at.beside_fault-requires c).Start), c.requires.1, c.requires.2)

-- what the reader says of it
judged : (c : After-beside_fault) → (t : Table) → Knows c.args.before.now c.args.form t → beside_fault c.args.s.now c.args.at (form_beside c.args.s.now c.args.at t) t ≡ c.beside_fault.result
judged c t b = ap (λ f. beside_fault c.args.s.now c.args.at f t) (sym (c.form_beside-needed.ensures ∙ form_needed c.args.s.now c.args.at b)) ∙ sym (c.beside_fault.ensures t b.keeps)

pub returns : goal.returns
returns c t b =
    c.is_ok.ensures.value
    ∙ sym (by-verdict c.args.s.now c.args.at t (like_chain _ _ c.requires.0) ∙ ap (λ (v : Verdict). is_ok v) (judged (goal.at.returns c).After-beside_fault t b))
