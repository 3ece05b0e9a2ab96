-- A form without a flag; a flag above 1, 0 or 1.
use native.Mathlib.Omega.{arith}
use mathlib.Core.Path.{◌≡◌}
use borrow.Author.Tests.{lt-ltb, eq-eqb, ne_eqb}
use Rattle.search.specs.Choice.{◌when◌else◌}
use Rattle.table.specs.Record.{known}
use Rattle.table.specs.Fault.{short_fault}
use Rattle.writing.specs.Rows.{flag_of}
use Rattle.writing.specs.Code.Tally.{largest_refusal}
use Rattle.writing.proofs.Fit.{row_fits}
use Rattle.writing.proofs.judged.largest_refusal.Goals as goal

pub returns-then-row-ne-LARGEST_FORM : goal.returns-then-row-ne-LARGEST_FORM
unfolding largest_refusal flag_of known short_fault ◌when◌else◌
returns-then-row-ne-LARGEST_FORM c = rw (ne_eqb _ _ c.if-row-ne-LARGEST_FORM.true)

pub returns-then-row-gt1 : goal.returns-then-row-gt1
unfolding largest_refusal flag_of ◌when◌else◌
returns-then-row-gt1 c = rw (eq-eqb _ _ c.if-row-ne-LARGEST_FORM.false, lt-ltb _ _ c.if-row-gt1.true)

pub returns-then-row-eq0 : goal.returns-then-row-eq0
unfolding largest_refusal flag_of known short_fault ◌when◌else◌
returns-then-row-eq0 c = rw (eq-eqb _ _ c.if-row-ne-LARGEST_FORM.false, c.if-row-eq0.true)

pub short_refusal-requires : goal.short_refusal-requires
short_refusal-requires c = let fits = row_fits c.args.row _ c.well_formed.0 in
    (c.requires, fits.list_places, fits.largest_places)

pub returns : goal.returns
unfolding largest_refusal flag_of known ◌when◌else◌
returns c = let flag : c.args.row.flag ≡ 1 = omega (arith, c.if-row-gt1.false, c.if-row-eq0.false) in
    rw (eq-eqb _ _ c.if-row-ne-LARGEST_FORM.false, flag, c.short_refusal.ensures)
