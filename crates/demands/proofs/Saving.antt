-- Saves from a record as it was seen: the laws of `saving`, as the demands say them. Assumes nothing.
use Rattle.saving.proofs.Promises.{unseen_refused, differing_refused, stale_until_back, changed_back, own-saved}
use Rattle.demands.specs.Saves.{SeenRecords}

pub seen-records : SeenRecords
seen-records = record {
  other = λ x e h n. unseen_refused x h e n;
  changed = λ x e h chain l id n. differing_refused x h e chain l id n;
  stale = λ x e a n es b never new. stale_until_back x e a.buffer a.new a.accepted n es b never new;
  changed_back = λ x e a. let c = changed_back x e a.buffer a.new a.accepted in (c.taken, c.table, c.seen);
  unchanged = own-saved;
}
