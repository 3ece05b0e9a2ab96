-- At each return the tests so far, in order, are what the calls gave.
use borrow.Author.Tests.{lt-ltb, le-ltb, eq-eqb, ne_eqb}
use Rattle.search.specs.Choice.{◌when◌else◌}
use Rattle.table.specs.Fault.{end_fault}
use Rattle.table.proofs.fault.end_fault.Goals as goal

pub returns-then-s-at : goal.returns-then-s-at
unfolding end_fault ◌when◌else◌
returns-then-s-at c t e = rw (lt-ltb _ _ c.if-s-at.true)

pub returns-then-count-eq0 : goal.returns-then-count-eq0
unfolding end_fault ◌when◌else◌
returns-then-count-eq0 c t e = rw (e, le-ltb _ _ c.if-s-at.false, eq-eqb _ _ c.if-count-eq0.true)

pub returns-then-from-count : goal.returns-then-from-count
unfolding end_fault ◌when◌else◌
returns-then-from-count c t e = rw (e, le-ltb _ _ c.if-s-at.false, ne_eqb _ _ c.if-count-eq0.false, ← c.u16_at.ensures, ← c.from.ensures, ne_eqb _ _ c.if-from-count.true)

pub returns-then-s-at-2 : goal.returns-then-s-at-2
unfolding end_fault ◌when◌else◌
returns-then-s-at-2 c t e = rw (e, le-ltb _ _ c.if-s-at.false, ne_eqb _ _ c.if-count-eq0.false, ← c.u16_at.ensures, ← c.from.ensures, eq-eqb _ _ c.if-from-count.false, ne_eqb _ _ c.if-s-at-2.true)

pub returns : goal.returns
unfolding end_fault ◌when◌else◌
returns c t e = rw (e, le-ltb _ _ c.if-s-at.false, ne_eqb _ _ c.if-count-eq0.false, ← c.u16_at.ensures, ← c.from.ensures, eq-eqb _ _ c.if-from-count.false, eq-eqb _ _ c.if-s-at-2.false)
