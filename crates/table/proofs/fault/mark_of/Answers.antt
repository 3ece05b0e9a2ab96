-- Each arm of the match is the test of that number.
use borrow.Author.Tests.{ne_eqb}
use Rattle.search.specs.Choice.{◌when◌else◌}
use Rattle.table.specs.Fault.{mark_of}
use Rattle.table.proofs.fault.mark_of.Goals as goal

pub returns-in-18499 : goal.returns-in-18499
unfolding ◌when◌else◌ mark_of
returns-in-18499 c = rw c.in-18499.is

pub returns-in-18243 : goal.returns-in-18243
unfolding ◌when◌else◌ mark_of
returns-in-18243 c = rw c.in-18243.is

pub returns-in-19284 : goal.returns-in-19284
unfolding ◌when◌else◌ mark_of
returns-in-19284 c = rw c.in-19284.is

pub returns-in-20037 : goal.returns-in-20037
unfolding ◌when◌else◌ mark_of
returns-in-20037 c = rw c.in-20037.is

pub returns-in_default : goal.returns-in_default
unfolding ◌when◌else◌ mark_of
returns-in_default c = simp (ne_eqb _ _ c.in_default.in_default-own.rest.0.0.0.1, ne_eqb _ _ c.in_default.in_default-own.rest.0.0.1, ne_eqb _ _ c.in_default.in_default-own.rest.0.1, ne_eqb _ _ c.in_default.in_default-own.rest.1)
