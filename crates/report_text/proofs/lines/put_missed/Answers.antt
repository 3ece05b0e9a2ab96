-- The text of each answer.
use native.Mathlib.Omega.{arith}
use mathlib.Core.Path.{sym, subst}
use Rattle.report_text.specs.Report.{after_space, missed_text}
use Rattle.slices.specs.Code.Wrote.{Wrote}
use Rattle.report_text.proofs.lines.put_missed.Goals as goal

pub returns-in-Ok : goal.returns-in-Ok
returns-in-Ok c = (subst (λ l. Wrote c.args.out.now c.args.at (after_space (missed_text l)) c.put_number.new.out c.put_number.result) (sym c.in-Ok.is) c.put_number.ensures.0, omega (arith, c.put_number.ensures.1))

pub returns-in-Err : goal.returns-in-Err
returns-in-Err c = (subst (λ l. Wrote c.args.out.now c.args.at (after_space (missed_text l)) c.put_refusal.new.out c.put_refusal.result) (sym c.in-Err.is) c.put_refusal.ensures.0, omega (arith, c.put_refusal.ensures.1))
