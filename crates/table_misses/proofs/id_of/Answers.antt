-- The chain's record stands where its place is.
use Rattle.std.proofs.Common.{arith}
use Rattle.table.proofs.Stands.{stands}
use Rattle.table_misses.proofs.id_of.Goals as goal

pub id_at-requires : goal.id_at-requires
id_at-requires c = omega (arith, (stands c.requires.0 c.place.ensures c.requires.1).there)
