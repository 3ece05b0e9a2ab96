-- Each way the answer is put, by its law.
use mathlib.Core.Path.{refl, ap, sym, ◌∙◌}
use mathlib.Core.List.{[], ◌∷◌}
use Rattle.table.specs.Refusal.{number_of, part_values}
use Rattle.editor.proofs.Writing.{answered-refusal, answered-figures}
use Rattle.editor.proofs.put_part.Goals as goal

pub returns-in-Ok : goal.returns-in-Ok
returns-in-Ok c = rw c.in-Ok.is (answered-figures 2 0 (c.in-Ok.part.offset ∷ c.in-Ok.part.length ∷ []) c.args.answer.now c.requires c.put_figures.new.answer refl c.put_figures.ensures)

pub returns-in-Err : goal.returns-in-Err
returns-in-Err c =
    answered-refusal 2 (number_of c.args.answered) (part_values c.args.answered) c.args.answer.now c.requires c.number.result (ap number_of c.in-Err.is ∙ sym c.number.ensures) (ap part_values c.in-Err.is)
