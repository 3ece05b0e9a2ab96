-- The form is that of the rows before; or there are rows before, and it is not; or it is the first one's.
use native.Mathlib.Omega.{arith}
use mathlib.Core.Path.{sym, ◌∙◌}
use borrow.Author.Tests.{eq-eqb, ne_eqb}
use Rattle.search.specs.Choice.{◌when◌else◌}
use Rattle.writing.specs.Code.Tally.{no_form, form_wrong}
use Rattle.writing.proofs.judged.form_wrong.Goals as goal

pub returns-then-from-before : goal.returns-then-from-before
unfolding form_wrong ◌when◌else◌
returns-then-from-before c =
    rw (ne_eqb c.args.before no_form (λ z. omega arith), eq-eqb _ _ (sym c.from.ensures ∙ c.if-from-before.true))

pub returns-then-before-ne-NO_FORM : goal.returns-then-before-ne-NO_FORM
unfolding form_wrong ◌when◌else◌
returns-then-before-ne-NO_FORM c = rw (ne_eqb _ _ c.if-before-ne-NO_FORM.true, ne_eqb _ _ (λ z. c.if-from-before.false (c.from.ensures ∙ z)))

pub returns-then-form-ne-GAP_FORM : goal.returns-then-form-ne-GAP_FORM
unfolding form_wrong ◌when◌else◌
returns-then-form-ne-GAP_FORM c = rw (eq-eqb _ _ c.if-before-ne-NO_FORM.false, ne_eqb _ _ c.if-form-ne-GAP_FORM.true)

pub returns-else-form-ne-GAP_FORM : goal.returns-else-form-ne-GAP_FORM
unfolding form_wrong ◌when◌else◌
returns-else-form-ne-GAP_FORM c = rw (eq-eqb _ _ c.if-before-ne-NO_FORM.false, eq-eqb _ _ c.if-form-ne-GAP_FORM.false)
