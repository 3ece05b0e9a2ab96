-- Each way the entry ends, by its law.
use Rattle.converting.specs.declared.To.TheVariants.{Largest}
use Rattle.editor.proofs.Converting.{convert-short, convert-done}
use Rattle.editor.proofs.mishtodran_to_largest.Goals as goal

pub returns-then-answer-lt4 : goal.returns-then-answer-lt4
returns-then-answer-lt4 c = let a = c.args in convert-short Largest a.table.now a.buffer.now a.answer.now c.if-answer-lt4.true c.number.ensures

pub returns : goal.returns
returns c = let a = c.args in
    convert-done Largest a.table.now a.buffer.now a.answer.now c.if-answer-lt4.false c.to_largest.result c.to_largest.new.out c.put_figure.new.answer c.put_figure.result c.to_largest.ensures c.put_figure.ensures
