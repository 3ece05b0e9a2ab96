-- The fields as they are, and the form, the length and the ids as they were made.
use Rattle.writing.proofs.judged.counted.Goals as goal

pub returns : goal.returns
returns c = rw (c.length_of.ensures.0, c.from.ensures, c.after_id-ids.ensures)
