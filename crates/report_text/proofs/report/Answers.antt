-- By the verdict.
use native.Mathlib.Omega.{arith}
use mathlib.Core.Path.{sym, ◌∙◌}
use Rattle.table.proofs.Accepted.{taken}
use Rattle.table.proofs.Fields.{small-place}
use Rattle.report_text.proofs.Answers.{report-accepted, report-refused, wrote_report}
use borrow.Author.Rules.{rules}
use Rattle.report_text.proofs.report.Goals as goal

pub put_lines-requires : goal.put_lines-requires
put_lines-requires c = (search rules, taken c.args.table.now (λ k. (c.type_inv.table k).fits) (sym c.judge.ensures ∙ c.in-Ok.is))

-- the place of the fault fits in the number that is printed
pub overflow_cast-at : goal.overflow_cast-at
overflow_cast-at c = omega (arith, small-place c.args.table.now (sym c.judge.ensures ∙ c.in-Err.is))

pub returns-in-Ok : goal.returns-in-Ok
returns-in-Ok c = let s = c.args.table.now in
    wrote_report s (report-accepted s (λ k. (c.type_inv.table k).fits) (sym c.judge.ensures ∙ c.in-Ok.is)) (search rules) c.put_lines.ensures

pub returns-in-Err : goal.returns-in-Err
returns-in-Err c = let s = c.args.table.now in
    wrote_report s (report-refused s (sym c.judge.ensures ∙ c.in-Err.is)) (search rules) c.put_refused.ensures
