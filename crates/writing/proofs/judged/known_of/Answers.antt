-- Case by case.
use borrow.Author.Tests.{eq-eqb, ne_eqb}
use Rattle.search.specs.Choice.{◌when◌else◌}
use Rattle.table.specs.Record.{known}
use Rattle.writing.proofs.judged.known_of.Goals as goal

pub returns-then-form-ne-LARGEST_FORM : goal.returns-then-form-ne-LARGEST_FORM
unfolding known ◌when◌else◌
returns-then-form-ne-LARGEST_FORM c = rw (ne_eqb _ _ c.if-form-ne-LARGEST_FORM.true)

pub returns-then-flag-ne1 : goal.returns-then-flag-ne1
unfolding known ◌when◌else◌
returns-then-flag-ne1 c = rw (eq-eqb _ _ c.if-form-ne-LARGEST_FORM.false, ne_eqb _ _ c.if-flag-ne1.true)

pub returns : goal.returns
unfolding known ◌when◌else◌
returns c = rw (eq-eqb _ _ c.if-form-ne-LARGEST_FORM.false, eq-eqb _ _ c.if-flag-ne1.false)
