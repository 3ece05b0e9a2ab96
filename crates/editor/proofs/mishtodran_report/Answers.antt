-- Each way the entry ends, by its law.
use mathlib.Core.Path.{refl, ap, ap₂, sym, ◌∙◌}
use mathlib.Core.List.{[], ◌∷◌, ◌++◌}
use borrow.Author.Tests.{lt-ltb, le-ltb}
use native.Mathlib.Omega.{arith}
use lib.ListN.{length, drop}
use Rattle.search.proofs.Choice.{when_yes, when_no}
use Rattle.report_text.specs.Report.{report_of}
use Rattle.report_text.proofs.Answers.{reported_within, reported_text}
use Rattle.editor.specs.Entry.{figure_bytes, starting_with}
use Rattle.editor.proofs.Writing.{answered-short, answered-refusal, answered-figures}
use Rattle.editor.proofs.mishtodran_report.Goals as goal

pub returns-then-answer-lt4 : goal.returns-then-answer-lt4
returns-then-answer-lt4 c = let a = c.args in
    record { answers = answered-short 1 _ _ a.answer.now c.if-answer-lt4.true c.number.ensures; leaves = rw c.number.ensures refl }

pub returns-then-text-n : goal.returns-then-text-n
returns-then-text-n c = let a = c.args in
    let long = lt-ltb (length a.text.now) (length (report_of a.table.now)) (omega (arith, c.report-n.ensures.answers, c.if-text-n.true)) in
    record {
      answers = answered-refusal 1 _ _ a.answer.now c.if-answer-lt4.false c.number-then-text-n.result (when_yes 24 0 long ∙ sym c.number-then-text-n.ensures) (when_yes [] (length (report_of a.table.now) ∷ []) long);
      leaves = rw c.number-then-text-n.ensures refl;
    }

pub slice_bounds-made-end : goal.slice_bounds-made-end
slice_bounds-made-end c = reported_within c.report-n.ensures

pub returns : goal.returns
returns c =
    let a = c.args in
    let report = c.report-n.ensures in
    let fits = le-ltb (length a.text.now) (length (report_of a.table.now)) (omega (arith, report.answers, c.if-text-n.false)) in
    let figures = ap (λ x. x ∷ []) report.answers ∙ sym (when_no [] (length (report_of a.table.now) ∷ []) fits) in
    record {
      answers =
          answered-figures 1 _ _ a.answer.now c.if-answer-lt4.false c.put_figures.new.answer (when_no 24 0 fits)
          (c.put_figures.ensures ∙ ap (λ l. starting_with (figure_bytes l) a.answer.now) figures);
      leaves = ap₂ (λ l n. l ++ drop n a.text.now) (c.copy_from_slice.ensures.after ∙ reported_text report) report.answers;
    }
