-- At each return the tests so far, in order, are what the calls gave.
use borrow.Author.Tests.{eq-eqb, ne_eqb}
use Rattle.search.specs.Choice.{◌when◌else◌}
use Rattle.table.specs.Fault.{values_fault}
use Rattle.table.proofs.fault.values_fault.Goals as goal

pub returns-then-u16_at-eq0 : goal.returns-then-u16_at-eq0
unfolding values_fault ◌when◌else◌
returns-then-u16_at-eq0 c = rw (← c.u16_at.ensures, eq-eqb _ _ c.if-u16_at-eq0.true)

pub returns-then-outside : goal.returns-then-outside
unfolding values_fault ◌when◌else◌
returns-then-outside c = rw (← c.u16_at.ensures, ne_eqb _ _ c.if-u16_at-eq0.false, ← c.u32_at.ensures, ← c.outside.ensures, c.if-outside.true)

pub returns : goal.returns
unfolding values_fault ◌when◌else◌
returns c = rw (← c.u16_at.ensures, ne_eqb _ _ c.if-u16_at-eq0.false, ← c.u32_at.ensures, ← c.outside.ensures, c.if-outside.false)
