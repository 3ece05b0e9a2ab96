-- Each way the entry ends, by its law.
use native.Mathlib.Omega.{arith}
use mathlib.Core.Path.{refl, ap, sym, ◌∙◌}
use Prim.Native.Nat.{ℕ}
use mathlib.Core.List.{[], ◌∷◌}
use Rattle.table.specs.Read.{read_table}
use Rattle.table.proofs.Fields.{small-place}
use Rattle.table.specs.Refusal.{numbered}
use Rattle.editor.specs.Entry.{figure_bytes, starting_with, verdict_figures}
use Rattle.editor.proofs.Writing.{answered-short, answered-figures}
use Rattle.editor.proofs.mishtodran_check.Goals as goal

pub returns-then-answer-lt8 : goal.returns-then-answer-lt8
returns-then-answer-lt8 c = let a = c.args in
    record { answers = answered-short 2 0 (verdict_figures (read_table a.table.now).verdict) a.answer.now c.if-answer-lt8.true c.number.ensures }

pub overflow_cast-figures : goal.overflow_cast-figures
overflow_cast-figures c = omega (arith, small-place c.args.table.now (sym c.judge.ensures ∙ c.in-Err.is))

pub returns-in-Ok : goal.returns-in-Ok
returns-in-Ok c = let a = c.args in
    let e = sym c.judge.ensures ∙ c.in-Ok.is in
    record { answers = rw e (answered-figures 2 0 (0 ∷ 0 ∷ []) a.answer.now c.if-answer-lt8.false c.put_figures.new.answer refl c.put_figures.ensures) }

pub returns-in-Err : goal.returns-in-Err
returns-in-Err c = let a = c.args in
    let e = sym c.judge.ensures ∙ c.in-Err.is in
    record { answers = rw e (answered-figures 2 0 (numbered c.in-Err.fault.0 ∷ c.in-Err.fault.1 ∷ []) a.answer.now c.if-answer-lt8.false c.put_figures-in-Err.new.answer refl (c.put_figures-in-Err.ensures ∙ ap (λ (m : ℕ). starting_with (figure_bytes (m ∷ c.in-Err.fault.1 ∷ [])) a.answer.now) c.number-in-Err.ensures)) }
