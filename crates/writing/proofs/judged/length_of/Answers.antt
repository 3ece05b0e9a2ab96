-- No part is long.
use native.Mathlib.Omega.{arith}
use Rattle.table.proofs.Widths.{known-most}
use Rattle.writing.proofs.judged.length_of.Goals as goal

pub overflow_mul-result-2 : goal.overflow_mul-result-2
overflow_mul-result-2 c = let a = c.args in omega (arith, c.known_of.ensures, known-most a.form a.flag a.listed, c.requires)

pub overflow_add-result-2 : goal.overflow_add-result-2
overflow_add-result-2 c = let a = c.args in omega (arith, c.known_of.ensures, known-most a.form a.flag a.listed, c.requires, c.head_length.ensures)

pub overflow_add-result-3 : goal.overflow_add-result-3
overflow_add-result-3 c = let a = c.args in omega (arith, c.known_of.ensures, known-most a.form a.flag a.listed, c.requires, c.head_length.ensures)

pub returns : goal.returns
returns c = let a = c.args in
    let h = c.head_length.ensures in
    (omega (arith, c.known_of.ensures, h.0), omega (arith, c.known_of.ensures, known-most a.form a.flag a.listed, c.requires, h.1))
