-- The form's width, after what stands before the gap.
use Rattle.table.proofs.record.listed_place.Goals as goal

pub returns : goal.returns
returns c = rw (c.gap_width.ensures.0, c.form_at.ensures)
