-- By the form asked.
use mathlib.Core.Path.{ap, sym, ◌∙◌}
use Rattle.table.specs.Record.{row_at}
use Rattle.converting.specs.Forms.{fits_form}
use Rattle.converting.proofs.shape.fits_form.Goals as goal

pub returns-in-Gap : goal.returns-in-Gap
returns-in-Gap c = let a = c.args in
    c.fits_gap.ensures ∙ ap (λ to. fits_form to (row_at a.s.now a.at)) (sym c.in-Gap.is)
