-- `part` meets its contract: the definition, by the kind.
use mathlib.Core.Path.{sym, ◌∙◌}
use borrow.Author.Tests.{eq-eqb, ne_eqb}
use Rattle.search.proofs.Choice.{when_yes, when_no}
use Rattle.table.specs.Record.{row_at}
use Rattle.windows.specs.Demand.{counted_part}
use Rattle.windows.proofs.loading.part.Goals as goal

pub returns-then-kind_at-eq1 : goal.returns-then-kind_at-eq1
unfolding counted_part row_at
returns-then-kind_at-eq1 c = c.own_part.ensures ∙ sym (when_yes _ _ (eq-eqb _ _ (sym c.kind_at.ensures ∙ c.if-kind_at-eq1.true)))

pub returns-else-kind_at-eq1 : goal.returns-else-kind_at-eq1
unfolding counted_part row_at
returns-else-kind_at-eq1 c = sym (when_no _ _ (ne_eqb _ _ (λ e. c.if-kind_at-eq1.false (c.kind_at.ensures ∙ e))))
