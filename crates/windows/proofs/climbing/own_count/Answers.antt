-- `own_count` meets its contract: each branch by its test.
use mathlib.Core.Path.{sym, ◌∙◌}
use borrow.Author.Tests.{eq-eqb, ne_eqb}
use Rattle.search.proofs.Choice.{when_yes, when_no}
use Rattle.windows.proofs.climbing.own_count.Goals as goal

pub returns-then-part-eq0 : goal.returns-then-part-eq0
returns-then-part-eq0 c = sym (when_yes _ _ (eq-eqb _ _ c.if-part-eq0.true))

pub returns : goal.returns
returns c = c.eta_from.ensures ∙ sym (when_no _ _ (ne_eqb _ _ c.if-part-eq0.false))
