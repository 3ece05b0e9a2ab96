-- The first fault of its three parts.
use borrow.Author.Tests.{le-ltb}
use Rattle.search.specs.Choice.{◌when◌else◌}
use Rattle.table.specs.Fault.{◌then◌, head_fault}
use Rattle.table.proofs.Firsts.{handed_on}
use Rattle.table.proofs.fault.head_fault.Goals as goal

pub returns-in_err-identity_fault : goal.returns-in_err-identity_fault
unfolding head_fault ◌when◌else◌ ◌then◌
returns-in_err-identity_fault c t before = rw (handed_on _ c.from_residual.ensures.1, ← c.requires.1, le-ltb _ _ c.requires.0, ← c.identity_fault.ensures t before, c.in_err-identity_fault.was)

pub returns-in_err-times_fault : goal.returns-in_err-times_fault
unfolding head_fault ◌when◌else◌ ◌then◌
returns-in_err-times_fault c t before = rw (handed_on _ c.from_residual-in_err-times_fault.ensures.1, ← c.requires.1, le-ltb _ _ c.requires.0, ← c.identity_fault.ensures t before, c.in_ok-identity_fault.was, ← c.times_fault.ensures, c.in_err-times_fault.was)

pub returns : goal.returns
unfolding head_fault ◌when◌else◌ ◌then◌
returns c t before = rw (c.counts_fault.ensures c.args.at c.requires.1, before.tasks, ← c.requires.1, le-ltb _ _ c.requires.0, ← c.identity_fault.ensures t before, c.in_ok-identity_fault.was, ← c.times_fault.ensures, c.in_ok-times_fault.was)
