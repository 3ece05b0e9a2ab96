-- Each way the entry ends, by its law.
use mathlib.Core.Path.{refl, ap, sym, ◌∙◌}
use mathlib.Core.List.{[], ◌∷◌}
use Rattle.table.specs.Refusal.{number_of}
use Rattle.salvaging.specs.Salvage.{values_of}
use Rattle.editor.proofs.Writing.{answered-refusal, answered-figures}
use Rattle.editor.proofs.Salvaging.{salvage-short, salvage-done}
use Rattle.editor.proofs.mishtodran_salvage.Goals as goal

pub returns-then-answer-lt8 : goal.returns-then-answer-lt8
returns-then-answer-lt8 c = let a = c.args in
    salvage-short a.input.now a.table.now a.list.now a.answer.now c.if-answer-lt8.true c.number.ensures

pub returns-in-Ok : goal.returns-in-Ok
returns-in-Ok c = let a = c.args in
    salvage-done a.input.now a.table.now a.list.now a.answer.now c.if-answer-lt8.false c.salvage.result c.salvage.new.table c.salvage.new.list c.put_figures.new.answer 0 c.salvage.ensures
    (rw c.in-Ok.is (answered-figures 2 0 (c.in-Ok.used.table ∷ c.in-Ok.used.list ∷ []) a.answer.now c.if-answer-lt8.false c.put_figures.new.answer refl c.put_figures.ensures))

pub returns-in-Err : goal.returns-in-Err
returns-in-Err c = let a = c.args in
    salvage-done a.input.now a.table.now a.list.now a.answer.now c.if-answer-lt8.false c.salvage.result c.salvage.new.table c.salvage.new.list a.answer.now c.number-in-Err.result c.salvage.ensures
    (answered-refusal 2 (number_of c.salvage.result) (values_of c.salvage.result) a.answer.now c.if-answer-lt8.false c.number-in-Err.result (ap number_of c.in-Err.is ∙ sym c.number-in-Err.ensures) (ap values_of c.in-Err.is))
