-- Each chain up to the count is there, its record stands where its place is, and the next one starts where it ends.
use Rattle.std.proofs.Common.{arith}
use Rattle.table.proofs.Stands.{stands, place-next}
use Rattle.table_salvage.proofs.put_pieces.Goals as goal

pub record_length-length-requires : goal.record_length-length-requires
record_length-length-requires g c = omega (arith, (stands c.requires c.place-record.ensures (omega (arith, c.loop-chain-test.true, c.count-chains.ensures))).there)

pub id_at-requires : goal.id_at-requires
id_at-requires g c = omega (arith, (stands c.requires c.place-record.ensures (omega (arith, c.loop-chain-test.true, c.count-chains.ensures))).there)

pub overflow_add-at : goal.overflow_add-at
overflow_add-at g c = omega (
  arith,
  c.requires.good.few,
  c.loop-chain-test.true,
  c.count-chains.ensures,
  (stands c.requires c.place-record.ensures (omega (arith, c.loop-chain-test.true, c.count-chains.ensures))).there,
  place-next c.requires c.place-record.ensures (omega (arith, c.loop-chain-test.true, c.count-chains.ensures)),
  c.record_length-length.ensures,
  c.place-record.ensures,
  c.loop-chain.invariant,
  c.skipped_to-start.ensures,
)

pub loop-chain-preserved : goal.loop-chain-preserved
loop-chain-preserved g c = omega (
  arith,
  place-next c.requires c.place-record.ensures (omega (arith, c.loop-chain-test.true, c.count-chains.ensures)),
  c.record_length-length.ensures,
  c.place-record.ensures,
  c.loop-chain.invariant,
  c.skipped_to-start.ensures,
)
