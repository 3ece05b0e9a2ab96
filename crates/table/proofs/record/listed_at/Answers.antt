-- The byte at its place.
use Rattle.table.proofs.record.listed_at.Goals as goal

pub returns : goal.returns
returns c = rw (← c.listed_place.ensures) c.count_at.ensures
