-- `term` meets its contract: one law for each of the three kinds of other chain.
use Prim.Native.Nat.{◌<◌}
use mathlib.Core.Path.{◌≡◌, ap, sym, ◌∙◌}
use native.Mathlib.Omega.{arith}
use borrow.Author.Tests.{eq-eqb, ne_eqb}
use Rattle.table.specs.Record.{row_at}
use Rattle.table.specs.declared.Row.{Row}
use Rattle.segments.specs.Tasks.{tasks_of, below, before}
use Rattle.segments.specs.Code.Held.{stretch_of}
use Rattle.segments.proofs.Steps.{ahead-first, ahead-inside}
use Rattle.windows.proofs.Terms.{free-adds, asynchronous-adds, synchronous_adds}
use Rattle.windows.proofs.loading.term.Goals as goal
use Rattle.windows.proofs.loading.term.Goals.{After-tasks_at}

-- the chain, its first stretch, and how many tasks it has
abbrev row : (c : After-tasks_at) → Row
row c = row_at c.args.s.now c.args.a

first-is : (c : After-tasks_at) → c.ahead-first.result ≡ stretch_of (before (below c.args.floor) (tasks_of (row c)))
first-is c = c.ahead-first.ensures ∙ ap stretch_of (ahead-first (row c).priority (row c).cost (row c).tasks c.args.floor)

tasks-is : (c : After-tasks_at) → c.tasks_at.result ≡ (row c).tasks
unfolding row_at
tasks-is c = c.tasks_at.ensures.0

inside : (c : After-tasks_at) → (c.ahead-first.result.len ≡ c.tasks_at.result → ⊥) → c.ahead-first.result.len < (row c).tasks
inside c h = omega (arith, ahead-inside (row c).priority (row c).cost (row c).tasks c.args.floor 0 c.ahead-first.result c.ahead-first.ensures (omega arith), h, (tasks-is c))

pub returns-then-first-tasks_at : goal.returns-then-first-tasks_at
returns-then-first-tasks_at c = λ b e. free-adds (row (goal.at.returns-then-first-tasks_at c).After-tasks_at) b c.requires.good e (first-is (goal.at.returns-then-first-tasks_at c).After-tasks_at) (c.if-first-tasks_at.true ∙ tasks-is (goal.at.returns-then-first-tasks_at c).After-tasks_at)

pub returns-then-kind_at-eq1 : goal.returns-then-kind_at-eq1
unfolding row_at
returns-then-kind_at-eq1 c = λ b e.
    asynchronous-adds (row (goal.at.returns-then-kind_at-eq1 c).After-tasks_at) b c.requires.good e (first-is (goal.at.returns-then-kind_at-eq1 c).After-tasks_at) (λ f. c.if-first-tasks_at.false (f ∙ sym (tasks-is (goal.at.returns-then-kind_at-eq1 c).After-tasks_at)))
    (eq-eqb _ _ (sym c.kind_at.ensures ∙ c.if-kind_at-eq1.true)) c.all_cost.ensures

pub dearest_cost-requires : goal.dearest_cost-requires
unfolding row_at
dearest_cost-requires c = (c.requires, record { is = first-is (goal.at.dearest_cost-requires c).After-tasks_at; deferred = inside (goal.at.dearest_cost-requires c).After-tasks_at c.if-first-tasks_at.false })

pub returns : goal.returns
unfolding row_at
returns c = λ b e.
    synchronous_adds (row (goal.at.returns c).After-tasks_at) b c.requires.good e (first-is (goal.at.returns c).After-tasks_at) (λ f. c.if-first-tasks_at.false (f ∙ sym (tasks-is (goal.at.returns c).After-tasks_at)))
    (ne_eqb _ _ (λ f. c.if-kind_at-eq1.false (c.kind_at.ensures ∙ f))) c.dearest_cost.ensures
