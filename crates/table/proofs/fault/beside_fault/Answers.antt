-- At each return the tests so far, in order, are what the calls gave.
use mathlib.Core.Path.{ap, sym, ◌∙◌}
use mathlib.Core.Bool.{not}
use borrow.Author.Tests.{eq-eqb, ne_eqb}
use Rattle.search.proofs.Choice.{when_yes, when_no}
use Rattle.table.specs.Fault.{beside_fault}
use Rattle.table.proofs.Faultless.{beside-is}
use Rattle.table.proofs.fault.beside_fault.Goals as goal

pub returns-then-form_at-form : goal.returns-then-form_at-form
unfolding beside_fault
returns-then-form_at-form c t k = sym (when_yes _ _ (ap not (ne_eqb _ _ (λ e. c.if-form_at-form.true (c.form_at.ensures ∙ e)))))

pub returns-then-before-eq-CHAINS : goal.returns-then-before-eq-CHAINS
unfolding beside_fault
returns-then-before-eq-CHAINS c t k = sym (when_no _ _ (ap not (eq-eqb _ _ (sym c.form_at.ensures ∙ c.if-form_at-form.false))) ∙ when_yes _ _ (eq-eqb _ _ (sym k.count ∙ c.if-before-eq-CHAINS.true)))

pub returns : goal.returns
returns c t k = c.chain_fault.ensures t k
    ∙ sym (beside-is _ _ _ t (sym c.form_at.ensures ∙ c.if-form_at-form.false) (λ e. c.if-before-eq-CHAINS.false (k.count ∙ e)))
