-- Each way the entry ends, by its law.
use mathlib.Core.Path.{sym, subst, ◌∙◌}
use mathlib.Core.List.{List}
use Prim.Native.Nat.{ℕ}
use borrow.Author.Tests.{lt-ltb, le-ltb}
use Rattle.search.proofs.Choice.{when_yes, when_no}
use Rattle.table.specs.Refusal.{number_of, one_value}
use Rattle.saving.specs.Save.{Saved, saved_of, buffer_after}
use Rattle.editor.specs.Entry.{Answered}
use Rattle.editor.proofs.Writing.{answered-short}
use Rattle.editor.proofs.mishtodran_save.Goals as goal

pub returns-then-answer-lt4 : goal.returns-then-answer-lt4
returns-then-answer-lt4 c = let a = c.args in
    let table : List ℕ = a.buffer.now in
    let saved = saved_of table a.used a.old_record.now a.new_record.now in
    let later = buffer_after table a.used a.old_record.now a.new_record.now in
    record {
      answers = answered-short 1 (number_of saved) (one_value saved) a.answer.now c.if-answer-lt4.true c.number.ensures;
      leaves = sym (when_yes table later (lt-ltb _ _ c.if-answer-lt4.true));
    }

pub returns : goal.returns
returns c = let a = c.args in
    let table : List ℕ = a.buffer.now in
    let later = buffer_after table a.used a.old_record.now a.new_record.now in
    let save = c.save.ensures in
    record {
      answers = subst (λ (x : Saved). Answered 1 (number_of x) (one_value x) a.answer.now c.put_figure.new.answer c.put_figure.result) save.answers c.put_figure.ensures;
      leaves = save.leaves ∙ sym (when_no table later (le-ltb _ _ c.if-answer-lt4.false));
    }
