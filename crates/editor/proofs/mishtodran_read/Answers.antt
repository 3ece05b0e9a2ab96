-- Where the answer buffer is too short, the rows stay; else they are as the reading leaves them.
use mathlib.Core.Path.{ap, sym, subst, ◌∙◌}
use lib.ListN.{length}
use borrow.Author.Tests.{lt-ltb, le-ltb}
use Rattle.search.proofs.Choice.{when_yes, when_no}
use Rattle.table.specs.Refusal.{number_of, one_value}
use Rattle.writing.specs.Fill.{Filled, filled_of, rows_after}
use Rattle.editor.specs.Entry.{Answered}
use Rattle.editor.proofs.Writing.{answered-short}
use Rattle.editor.proofs.mishtodran_read.Goals as goal

pub returns-then-answer-lt4 : goal.returns-then-answer-lt4
returns-then-answer-lt4 c =
    let a = c.args in
    let filled = filled_of (length a.rows.now) a.table.now in
    record {
      answers = answered-short 1 (number_of filled) (one_value filled) a.answer.now c.if-answer-lt4.true c.number.ensures;
      leaves = sym (when_yes a.rows.now (rows_after filled a.table.now a.rows.now) (lt-ltb (length a.answer.now) 4 c.if-answer-lt4.true));
    }

pub returns : goal.returns
returns c =
    let a = c.args in
    let filled = filled_of (length a.rows.now) a.table.now in
    let read = c.read.ensures in
    record {
      answers = subst (λ (x : Filled). Answered 1 (number_of x) (one_value x) a.answer.now c.put_figure.new.answer c.put_figure.result) read.answers c.put_figure.ensures;
      leaves =
          read.leaves
          ∙ ap (λ (x : Filled). rows_after x a.table.now a.rows.now) read.answers
          ∙ sym (when_no a.rows.now (rows_after filled a.table.now a.rows.now) (le-ltb (length a.answer.now) 4 c.if-answer-lt4.false));
    }
