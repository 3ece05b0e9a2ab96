-- The word, the number, the place and the line feed.
use native.Mathlib.Omega.{arith}
use Rattle.report_text.proofs.Decimals.{decimal-fits}
use Rattle.slices.proofs.Writes.{wrote_on}
use Rattle.report_text.proofs.put_refused.Goals as goal

pub put_decimal-after_number-requires : goal.put_decimal-after_number-requires
put_decimal-after_number-requires c = let w = c.put_text-after_word.ensures in
    omega (arith, c.requires, w.ends, w.long, decimal-fits c.number.result c.number.type_inv)

pub put_number-after_place-requires : goal.put_number-after_place-requires
put_number-after_place-requires c = let w = c.put_text-after_word.ensures in
    let d = c.put_decimal-after_number.ensures in
    omega (arith, c.requires, w.ends, w.long, d.ends, d.long, decimal-fits c.number.result c.number.type_inv)

pub put_byte-requires : goal.put_byte-requires
put_byte-requires c = let w = c.put_text-after_word.ensures in
    let d = c.put_decimal-after_number.ensures in
    let p = c.put_number-after_place.ensures in
    omega (arith, c.requires, w.ends, w.long, d.ends, d.long, p.0.long, p.1, decimal-fits c.number.result c.number.type_inv)

pub returns : goal.returns
returns c = rw (← c.number.ensures) (wrote_on (wrote_on (wrote_on c.put_text-after_word.ensures c.put_decimal-after_number.ensures) c.put_number-after_place.ensures.0) c.put_byte.ensures)
