-- By the test.
use borrow.Author.Tests.{eq-eqb, ne_eqb}
use Rattle.search.proofs.Choice.{when_yes, when_no}
use mathlib.Core.Path.{sym}
use Rattle.segments.proofs.cutting.segment_of.Goals as goal

pub returns-then-stretch-eq0 : goal.returns-then-stretch-eq0
returns-then-stretch-eq0 c = sym (when_yes _ _ (eq-eqb _ _ c.if-stretch-eq0.true))

pub returns-else-stretch-eq0 : goal.returns-else-stretch-eq0
returns-else-stretch-eq0 c = sym (when_no _ _ (ne_eqb _ _ c.if-stretch-eq0.false))
