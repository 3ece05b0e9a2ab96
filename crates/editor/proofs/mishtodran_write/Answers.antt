-- Where the answer buffer is too short, the buffer stays; else it is as the write leaves it.
use mathlib.Core.Path.{ap, sym, subst, ◌∙◌}
use lib.ListN.{length}
use borrow.Author.Tests.{lt-ltb, le-ltb}
use Rattle.search.proofs.Choice.{when_yes, when_no}
use Rattle.table.specs.Refusal.{number_of, one_value}
use Rattle.writing.specs.Write.{Written, written_of, buffer_after}
use Rattle.editor.specs.Entry.{Answered}
use Rattle.editor.proofs.Writing.{answered-short}
use Rattle.editor.proofs.mishtodran_write.Goals as goal

pub returns-then-answer-lt4 : goal.returns-then-answer-lt4
returns-then-answer-lt4 c =
    let a = c.args in
    let written = written_of (length a.buffer.now) a.rows.now in
    record {
      answers = answered-short 1 (number_of written) (one_value written) a.answer.now c.if-answer-lt4.true c.number.ensures;
      leaves = sym (when_yes a.buffer.now (buffer_after written a.rows.now a.buffer.now) (lt-ltb (length a.answer.now) 4 c.if-answer-lt4.true));
    }

pub returns : goal.returns
returns c =
    let a = c.args in
    let written = written_of (length a.buffer.now) a.rows.now in
    let write = c.write.ensures in
    record {
      answers = subst (λ (x : Written). Answered 1 (number_of x) (one_value x) a.answer.now c.put_figure.new.answer c.put_figure.result) write.answers c.put_figure.ensures;
      leaves =
          write.leaves
          ∙ ap (λ (x : Written). buffer_after x a.rows.now a.buffer.now) write.answers
          ∙ sym (when_no a.buffer.now (buffer_after written a.rows.now a.buffer.now) (le-ltb (length a.answer.now) 4 c.if-answer-lt4.false));
    }
