-- At each return the tests so far, in order, are what the calls gave.
use borrow.Author.Tests.{eq-eqb, ne_eqb}
use Rattle.search.specs.Choice.{◌when◌else◌}
use Rattle.table.specs.Fault.{gap_fault}
use Rattle.table.proofs.fault.gap_fault.Goals as goal

pub returns-then-gap-eq0 : goal.returns-then-gap-eq0
unfolding gap_fault ◌when◌else◌
returns-then-gap-eq0 c = rw (eq-eqb _ _ c.if-gap-eq0.true)

pub returns-then-gap_short : goal.returns-then-gap_short
unfolding gap_fault ◌when◌else◌
returns-then-gap_short c = rw (ne_eqb _ _ c.if-gap-eq0.false, ← c.gap_short.ensures, c.if-gap_short.true)

pub returns : goal.returns
unfolding gap_fault ◌when◌else◌
returns c = rw (ne_eqb _ _ c.if-gap-eq0.false, ← c.gap_short.ensures, c.if-gap_short.false)
