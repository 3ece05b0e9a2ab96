-- At each return the tests so far, in order, are what the calls gave.
use borrow.Author.Tests.{lt-ltb, le-ltb}
use Rattle.search.specs.Choice.{◌when◌else◌}
use Rattle.table.specs.Fault.{identity_fault}
use Rattle.table.proofs.fault.identity_fault.Goals as goal

pub returns-then-id_wrong : goal.returns-then-id_wrong
unfolding identity_fault ◌when◌else◌
returns-then-id_wrong c t before = rw (← c.id_at.ensures, ← c.id_wrong.ensures t before, c.if-id_wrong.true)

pub returns-then-kind_at-gt1 : goal.returns-then-kind_at-gt1
unfolding identity_fault ◌when◌else◌
returns-then-kind_at-gt1 c t before = rw (← c.id_at.ensures, ← c.id_wrong.ensures t before, c.if-id_wrong.false, ← c.kind_at.ensures, lt-ltb _ _ c.if-kind_at-gt1.true)

pub returns-then-overload_at-gt1 : goal.returns-then-overload_at-gt1
unfolding identity_fault ◌when◌else◌
returns-then-overload_at-gt1 c t before = rw (← c.id_at.ensures, ← c.id_wrong.ensures t before, c.if-id_wrong.false, ← c.kind_at.ensures, le-ltb _ _ c.if-kind_at-gt1.false, ← c.overload_at.ensures, lt-ltb _ _ c.if-overload_at-gt1.true)

pub returns : goal.returns
unfolding identity_fault ◌when◌else◌
returns c t before = rw (← c.id_at.ensures, ← c.id_wrong.ensures t before, c.if-id_wrong.false, ← c.kind_at.ensures, le-ltb _ _ c.if-kind_at-gt1.false, ← c.overload_at.ensures, le-ltb _ _ c.if-overload_at-gt1.false)
