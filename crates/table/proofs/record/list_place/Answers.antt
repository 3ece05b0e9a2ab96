-- The form's length, after the record's start.
use Rattle.table.proofs.record.list_place.Goals as goal

pub returns : goal.returns
returns c = rw (c.head_length.ensures.0, c.form_at.ensures)
