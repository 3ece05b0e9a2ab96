-- Case by case.
use mathlib.Core.Path.{sym, ◌∙◌}
use borrow.Author.Tests.{eq-eqb, ne_eqb}
use Rattle.search.proofs.Choice.{when_yes, when_no}
use Rattle.salvaging.proofs.walk.form_beside.Goals as goal

pub returns-then-count-eq0 : goal.returns-then-count-eq0
returns-then-count-eq0 c = c.form_at.ensures ∙ sym (when_yes _ _ (eq-eqb _ _ c.if-count-eq0.true))

pub returns-else-count-eq0 : goal.returns-else-count-eq0
returns-else-count-eq0 c = sym (when_no _ _ (ne_eqb _ _ c.if-count-eq0.false))
