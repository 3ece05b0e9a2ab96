-- The figures one after the other, or the refusal alone.
use native.Mathlib.Omega.{arith}
use mathlib.Core.Path.{sym, subst}
use mir.Syntax.{w32}
use mir.Facts.{to_z-of_z}
use Rattle.windows.specs.Latency.{figures_of}
use Rattle.report_text.specs.Numbers.{signed}
use Rattle.report_text.specs.Report.{after_space, answers_text}
use Rattle.slices.specs.Code.Wrote.{Wrote}
use Rattle.slices.proofs.Writes.{wrote_on}
use Rattle.report_text.proofs.lines.put_answers.Goals as goal

pub returns-in-Err : goal.returns-in-Err
returns-in-Err c = (subst (λ a. Wrote c.args.out.now c.args.at (answers_text (figures_of a) c.args.missed) c.put_refusal.new.out c.put_refusal.result) (sym c.in-Err.is) c.put_refusal.ensures.0, omega (arith, c.put_refusal.ensures.1))

pub returns-in-Ok : goal.returns-in-Ok
returns-in-Ok c = let w1 = c.put_number-after_close.ensures in
    let w2 = c.put_number-after_latency.ensures in
    let whole = to_z-of_z {w = w32} {z = c.in-Ok.w.figures.margin} (record { sfits = omega arith }) in
    let w5 = c.put_missed.ensures in
    let w4 = subst (λ x. Wrote c.put_number-after_late.new.out c.put_number-after_late.result (after_space (signed x)) c.put_signed-after_margin.new.out c.put_signed-after_margin.result) whole c.put_signed-after_margin.ensures.0 in (
      subst (λ a. Wrote c.args.out.now c.args.at (answers_text (figures_of a) c.args.missed) c.put_missed.new.out c.put_missed.result) (sym c.in-Ok.is) (wrote_on (wrote_on (wrote_on (wrote_on w1.0 w2.0) c.put_number-after_late.ensures.0) w4) w5.0),
      omega (arith, w1.1, w2.1, c.put_number-after_late.ensures.1, c.put_signed-after_margin.ensures.1, w5.1),
    )
