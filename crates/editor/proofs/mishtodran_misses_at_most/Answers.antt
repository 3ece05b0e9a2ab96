-- Each way the entry ends, by its law.
use mathlib.Core.Path.{refl, ap, sym, ◌∙◌}
use mathlib.Core.List.{[], ◌∷◌}
use Rattle.table.specs.Refusal.{number_of}
use Rattle.misses.specs.Sieve.{values_of, at_most_of}
use Rattle.editor.proofs.Writing.{answered-short, answered-refusal, answered-figures}
use Rattle.editor.proofs.mishtodran_misses_at_most.Goals as goal

pub returns-then-answer-lt4 : goal.returns-then-answer-lt4
returns-then-answer-lt4 c = let a = c.args in
    let answer = at_most_of a.table.now a.id a.k in
    record { answers = answered-short 1 (number_of answer) (values_of answer) a.answer.now c.if-answer-lt4.true c.number.ensures }

pub returns-in-Ok : goal.returns-in-Ok
returns-in-Ok c = let a = c.args in
    let e = sym c.at_most.ensures ∙ c.in-Ok.is in
    record { answers = rw e (answered-figures 1 0 (c.in-Ok.at_most.most ∷ []) a.answer.now c.if-answer-lt4.false c.put_figures.new.answer refl c.put_figures.ensures) }

pub returns-in-Err : goal.returns-in-Err
returns-in-Err c = let a = c.args in
    let answer = at_most_of a.table.now a.id a.k in
    let e = sym c.at_most.ensures ∙ c.in-Err.is in
    record { answers = answered-refusal 1 (number_of answer) (values_of answer) a.answer.now c.if-answer-lt4.false c.number-in-Err.result (ap number_of e ∙ sym c.number-in-Err.ensures) (ap values_of e) }
