-- Each way the entry ends, by its law.
use Rattle.converting.specs.declared.To.TheVariants.{Gap}
use Rattle.editor.proofs.Converting.{convert-short, convert-done}
use Rattle.editor.proofs.mishtodran_to_gap.Goals as goal

pub returns-then-answer-lt4 : goal.returns-then-answer-lt4
returns-then-answer-lt4 c = let a = c.args in convert-short Gap a.table.now a.buffer.now a.answer.now c.if-answer-lt4.true c.number.ensures

pub returns : goal.returns
returns c = let a = c.args in
    convert-done Gap a.table.now a.buffer.now a.answer.now c.if-answer-lt4.false c.to_gap.result c.to_gap.new.out c.put_figure.new.answer c.put_figure.result c.to_gap.ensures c.put_figure.ensures
