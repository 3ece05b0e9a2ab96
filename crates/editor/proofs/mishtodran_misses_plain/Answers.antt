-- Each way the entry ends, by its law.
use mathlib.Core.Path.{subst}
use Prim.Native.Nat.{ℕ}
use Rattle.std.specs.declared.result.Result.{Result}
use Rattle.table.specs.Refusal.{number_of, one_value}
use Rattle.table.specs.declared.refusal.Refusal.{Refusal}
use Rattle.misses.specs.Misses.{misses_of}
use Rattle.editor.specs.Entry.{Answered}
use Rattle.editor.proofs.Writing.{answered-short}
use Rattle.editor.proofs.mishtodran_misses_plain.Goals as goal

pub returns-then-answer-lt4 : goal.returns-then-answer-lt4
returns-then-answer-lt4 c = let a = c.args in
    let answer = misses_of a.table.now a.id a.k in
    record { answers = answered-short 1 (number_of answer) (one_value answer) a.answer.now c.if-answer-lt4.true c.number.ensures }

pub returns : goal.returns
returns c = let a = c.args in
    record { answers = subst (λ (x : Result ℕ Refusal). Answered 1 (number_of x) (one_value x) a.answer.now c.put_figure.new.answer c.put_figure.result) c.misses_plain.ensures c.put_figure.ensures }
