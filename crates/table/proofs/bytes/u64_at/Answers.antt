-- Two numbers of four bytes, by the law of a split number.
use Rattle.table.proofs.Words.{word_split}
use native.Mathlib.Omega.{arith}
use Rattle.table.proofs.bytes.u64_at.Goals as goal

pub returns : goal.returns
returns c = let a = c.args in
    omega (arith, word_split 4 4 a.s.now a.at, c.from-2.ensures, c.from.ensures, c.u32_at-2.ensures, c.u32_at.ensures)
