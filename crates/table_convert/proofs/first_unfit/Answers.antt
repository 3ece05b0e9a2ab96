-- Each chain up to the count is there, and its record stands where its place is.
use Rattle.std.proofs.Common.{arith}
use Rattle.table.specs.Code.Taken.{Stands}
use Rattle.table.proofs.Stands.{stands}
use Rattle.table_convert.proofs.first_unfit.Goals as goal
use Rattle.table_convert.proofs.first_unfit.Goals.{After-place-at}

standing : (c : After-place-at) → Stands c.args.s.now c.place-at.result
standing c = stands c.requires c.place-at.ensures (omega (arith, c.loop-chain-test.true, c.count-chain-end.ensures))

pub fits_gap-requires : goal.fits_gap-requires
fits_gap-requires c = standing c

pub id_at-requires : goal.id_at-requires
id_at-requires c = omega (arith, (standing (goal.at.id_at-requires c).After-place-at).there)
