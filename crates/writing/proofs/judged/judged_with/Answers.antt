-- Each return is one of the four ways to judge a row more.
use native.Mathlib.Omega.{arith}
use mathlib.Core.Path.{subst, sym, ◌∙◌}
use Rattle.table.proofs.Firsts.{handed_on}
use Rattle.writing.specs.Rows.{Typed}
use Rattle.writing.specs.Code.Tally.{JudgedWith}
use Rattle.writing.proofs.Fit.{row_fits}
use Rattle.writing.proofs.Faults.{row_counts, with-other, with-many, with-fault, with_none}
use Rattle.writing.proofs.judged.judged_with.Goals as goal
use Rattle.writing.proofs.judged.judged_with.Goals.{Start}

fits : (c : Start) → Typed c.args.row
fits c = row_fits c.args.row _ c.well_formed.1.0

pub returns-then-form_wrong : goal.returns-then-form_wrong
returns-then-form_wrong c = with-other (fits (goal.at.returns-then-form_wrong c).Start) (sym c.form_wrong.ensures ∙ c.if-form_wrong.true)

pub returns-then-judged-eq-CHAINS : goal.returns-then-judged-eq-CHAINS
returns-then-judged-eq-CHAINS c = with-many (fits (goal.at.returns-then-judged-eq-CHAINS c).Start) (sym c.form_wrong.ensures ∙ c.if-form_wrong.false) c.if-judged-eq-CHAINS.true

pub returns-in_err-row_refusal : goal.returns-in_err-row_refusal
returns-in_err-row_refusal c = subst (JudgedWith c.args.judged c.args.row) (sym (handed_on _ c.from_residual.ensures.1))
    (with-fault (fits (goal.at.returns-in_err-row_refusal c).Start) (sym c.form_wrong.ensures ∙ c.if-form_wrong.false) c.if-judged-eq-CHAINS.false (sym c.row_refusal.ensures ∙ c.in_err-row_refusal.was))

pub counted-requires : goal.counted-requires
counted-requires c = let b = row_counts c.args.judged c.args.row (sym c.row_refusal.ensures ∙ c.in_ok-row_refusal.was) in
    record { count = omega (arith, c.requires.count, c.if-judged-eq-CHAINS.false); tasks = c.requires.tasks; bytes = omega (arith, c.requires.bytes, c.requires.count, c.requires.tasks); of_listed = b.1; of_tasks = b.2; places = c.requires.places }

pub returns : goal.returns
returns c = rw c.counted.ensures
    (with_none (fits (goal.at.returns c).Start) (sym c.form_wrong.ensures ∙ c.if-form_wrong.false) c.if-judged-eq-CHAINS.false c.requires (sym c.row_refusal.ensures ∙ c.in_ok-row_refusal.was))
