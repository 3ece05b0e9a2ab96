-- Where nothing is found from `from` on, all records are looked at.
use mathlib.Core.Path.{refl}
use native.Mathlib.Omega.{arith}
use Rattle.merging.proofs.Seeks.{first_record, found-near, found_all}
use Rattle.merging.proofs.states.find_near.Goals as goal

pub returns-then-near-end_place : goal.returns-then-near-end_place
returns-then-near-end_place c = found-near c.requires.0 c.args.id c.seek-near.ensures (omega (arith, c.if-near-end_place.true, c.end_place.ensures))

pub seek-requires : goal.seek-requires
seek-requires c = (c.requires.0, first_record c.args.s.now)

pub returns : goal.returns
returns c = found_all c.requires.0 c.args.id c.seek.ensures refl
