-- Each of the two tests decides.
use native.Mathlib.Omega.{arith}
use mathlib.Core.Path.{◌∙◌, sym}
use borrow.Author.Tests.{eq-eqb, ne_eqb}
use Rattle.table.proofs.Earlier.{used-before}
use Rattle.table.proofs.fault.id_wrong.Goals as goal

pub returns-then-id-eq0 : goal.returns-then-id-eq0
returns-then-id-eq0 c t before = rw (eq-eqb _ _ c.if-id-eq0.true)

pub returns-else-id-eq0 : goal.returns-else-id-eq0
returns-else-id-eq0 c t before = rw (ne_eqb _ _ c.if-id-eq0.false) (c.contains.ensures.value ∙ sym (used-before t _ (omega arith) before))
