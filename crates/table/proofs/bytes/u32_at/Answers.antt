-- Two numbers of two bytes, by the law of a split number.
use Rattle.table.proofs.Words.{word_split}
use native.Mathlib.Omega.{arith}
use Rattle.table.proofs.bytes.u32_at.Goals as goal

pub returns : goal.returns
returns c = let a = c.args in
    omega (arith, word_split 2 2 a.s.now a.at, c.from-2.ensures, c.from.ensures, c.u16_at-2.ensures, c.u16_at.ensures)
