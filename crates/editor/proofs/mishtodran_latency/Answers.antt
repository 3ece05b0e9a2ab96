-- Each way the entry ends, by its law.
use mathlib.Core.Path.{◌≡◌, refl, ap, sym, ◌∙◌}
use mathlib.Core.List.{List, [], ◌∷◌}
use Prim.Native.Nat.{ℕ}
use mir.Syntax.{w32}
use mir.Facts.{to_z-of_z}
use mir.Val.{of_z}
use lib.IntN.{ℤ, pos, negsuc}
use native.Mathlib.Omega.{arith}
use Rattle.table.specs.Refusal.{number_of}
use Rattle.windows.specs.Latency.{latency_of}
use Rattle.editor.specs.Entry.{unsigned, latency_figures, figure_bytes, starting_with}
use Rattle.editor.proofs.Writing.{answered-short, answered-refusal, answered-figures}
use Rattle.editor.proofs.mishtodran_latency.Goals as goal

-- the bits of a signed number are its two's complement
as_unsigned : (x : ℤ) → of_z w32 x ≡ unsigned x
as_unsigned (pos n) = refl
as_unsigned (negsuc n) = omega arith

pub returns-then-answer-lt16 : goal.returns-then-answer-lt16
returns-then-answer-lt16 c = let a = c.args in
    let answer = latency_of a.table.now a.id in
    record { answers = answered-short 4 (number_of answer) (latency_figures answer) a.answer.now c.if-answer-lt16.true c.number.ensures }

pub returns-in-Ok : goal.returns-in-Ok
returns-in-Ok c = let a = c.args in
    let close = c.in-Ok.f.close in
    let latency = c.in-Ok.f.latency in
    let late = c.in-Ok.f.late in
    let margin = c.in-Ok.f.margin in
    let before : List ℕ = a.answer.now in
    let signed = c.cast_unsigned.ensures ∙ ap (of_z w32) (to_z-of_z {w = w32} {z = margin} (record { sfits = omega arith })) ∙ as_unsigned margin in
    let held = c.put_figures.ensures ∙ ap (λ (m : ℕ). starting_with (figure_bytes (close ∷ latency ∷ late ∷ m ∷ [])) before) signed in
    let e = sym c.latency.ensures ∙ c.in-Ok.is in
    record { answers = rw e (answered-figures 4 0 (close ∷ latency ∷ late ∷ unsigned margin ∷ []) before c.if-answer-lt16.false c.put_figures.new.answer refl held) }

pub returns-in-Err : goal.returns-in-Err
returns-in-Err c = let a = c.args in
    let answer = latency_of a.table.now a.id in
    let e = sym c.latency.ensures ∙ c.in-Err.is in
    record { answers = answered-refusal 4 (number_of answer) (latency_figures answer) a.answer.now c.if-answer-lt16.false c.number-in-Err.result (ap number_of e ∙ sym c.number-in-Err.ensures) (ap latency_figures e) }
