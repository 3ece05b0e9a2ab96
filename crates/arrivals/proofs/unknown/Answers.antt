-- `unknown` meets its contract: its two tests, in order.
use borrow.Author.Tests.{eq-eqb, ne_eqb}
use Rattle.table.specs.Record.{row_at}
use Rattle.arrivals.specs.Arrivals.{unknown}
use Rattle.arrivals.proofs.unknown.Goals as goal

pub returns-then-gap_at-eq0 : goal.returns-then-gap_at-eq0
unfolding unknown row_at
returns-then-gap_at-eq0 c = rw (← c.flag_at.ensures, ← c.gap_at.ensures, eq-eqb _ _ c.if-gap_at-eq0.true)

pub returns-else-gap_at-eq0 : goal.returns-else-gap_at-eq0
unfolding unknown row_at
returns-else-gap_at-eq0 c = rw (← c.gap_at.ensures, ne_eqb _ _ c.if-gap_at-eq0.false)
