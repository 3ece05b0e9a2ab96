-- Each way the answer is put, by its law.
use mathlib.Core.Path.{refl, ap, sym, ◌∙◌}
use mathlib.Core.List.{[], ◌∷◌}
use Rattle.table.specs.Refusal.{number_of, one_value}
use Rattle.editor.proofs.Writing.{answered-refusal, answered-figures}
use Rattle.editor.proofs.put_figure.Goals as goal

pub returns-in-Ok : goal.returns-in-Ok
returns-in-Ok c = rw c.in-Ok.is (answered-figures 1 0 (c.in-Ok.n ∷ []) c.args.answer.now c.requires c.put_figures.new.answer refl c.put_figures.ensures)

pub returns-in-Err : goal.returns-in-Err
returns-in-Err c =
    answered-refusal 1 (number_of c.args.answered) (one_value c.args.answered) c.args.answer.now c.requires c.number.result (ap number_of c.in-Err.is ∙ sym c.number.ensures) (ap one_value c.in-Err.is)
