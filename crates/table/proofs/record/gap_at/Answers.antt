-- The test of the form.
use native.Mathlib.Omega.{arith}
use mathlib.Core.Path.{ap, sym, ◌∙◌}
use lib.Dec.{eqb}
use borrow.Author.Tests.{eqb-false}
use Rattle.search.specs.Choice.{◌when◌else◌}
use Rattle.table.specs.Record.{largest_form, form_at, gap_at}
use Rattle.table.proofs.Forms.{wide}
use Rattle.table.proofs.record.gap_at.Goals as goal

pub returns-then-has_flag : goal.returns-then-has_flag
unfolding gap_at ◌when◌else◌
returns-then-has_flag c = rw (← c.form_at.ensures, ← c.has_flag.ensures, c.if-has_flag.true)

pub u32_at-requires : goal.u32_at-requires
u32_at-requires c = omega (arith, c.requires, wide (form_at c.args.s.now c.args.at) (eqb-false _ _ (ap (λ n. eqb n largest_form) (sym c.form_at.ensures) ∙ sym c.has_flag.ensures ∙ c.if-has_flag.false)))

pub returns : goal.returns
unfolding gap_at ◌when◌else◌
returns c = rw (← c.form_at.ensures, ← c.has_flag.ensures, c.if-has_flag.false) c.u32_at.ensures
