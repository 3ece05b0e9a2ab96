-- The letter, and the digits after it.
use native.Mathlib.Omega.{arith}
use Rattle.report_text.proofs.Decimals.{decimal-fits}
use Rattle.slices.proofs.Writes.{wrote_on}
use Rattle.report_text.proofs.text.put_refusal.Goals as goal

pub put_decimal-requires : goal.put_decimal-requires
put_decimal-requires c = let w = c.put_text-next.ensures in
    omega (arith, w.ends, w.long, c.requires, decimal-fits c.number.result c.number.type_inv)

pub returns : goal.returns
returns c = let d = c.put_decimal.ensures in
    let w = c.put_text-next.ensures in
    (rw (← c.number.ensures) (wrote_on w d), omega (arith, w.ends, d.ends, decimal-fits c.number.result c.number.type_inv))
