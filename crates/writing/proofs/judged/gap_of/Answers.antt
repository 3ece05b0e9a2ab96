-- Case by case.
use mathlib.Core.Path.{sym}
use borrow.Author.Tests.{eq-eqb, ne_eqb}
use Rattle.search.proofs.Choice.{when_yes, when_no}
use Rattle.writing.specs.Rows.{gap_of}
use Rattle.writing.proofs.judged.gap_of.Goals as goal

pub returns-then-form-eq-LARGEST_FORM : goal.returns-then-form-eq-LARGEST_FORM
unfolding gap_of
returns-then-form-eq-LARGEST_FORM c = sym (when_yes _ _ (eq-eqb _ _ c.if-form-eq-LARGEST_FORM.true))

pub returns-else-form-eq-LARGEST_FORM : goal.returns-else-form-eq-LARGEST_FORM
unfolding gap_of
returns-else-form-eq-LARGEST_FORM c = sym (when_no _ _ (ne_eqb _ _ c.if-form-eq-LARGEST_FORM.false))
