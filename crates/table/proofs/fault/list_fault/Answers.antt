-- At each return the tests so far, in order, are what the calls gave.
use native.Mathlib.Omega.{arith}
use mathlib.Core.Path.{◌≡◌, ap, ◌∙◌}
use lib.ListN.{get_or}
use borrow.Author.Tests.{lt-ltb, le-ltb}
use Rattle.search.specs.Choice.{◌when◌else◌}
use Rattle.table.specs.Record.{listed_at}
use Rattle.table.specs.Fault.{list_fault}
use Rattle.table.proofs.Forms.{listed-before}
use Rattle.table.proofs.fault.list_fault.Goals as goal
use Rattle.table.proofs.fault.list_fault.Goals.{After-listed_from-n}

listed : (c : After-listed_from-n) → c.listed_from-n.result ≡ listed_at c.args.s.now c.args.at
listed c = c.listed_from-n.ensures.0 ∙ ap (λ i. get_or c.args.s.now i 0) (listed-before _ _ c.args.at c.requires.1)

pub returns-then-s-list : goal.returns-then-s-list
unfolding list_fault ◌when◌else◌
returns-then-s-list c = rw (← listed (goal.at.returns-then-s-list c).After-listed_from-n, ← c.requires.1, lt-ltb _ _ c.if-s-list.true)

pub distances_fault-requires : goal.distances_fault-requires
distances_fault-requires c = (omega (arith, listed (goal.at.distances_fault-requires c).After-listed_from-n, c.requires.3), omega (arith, listed (goal.at.distances_fault-requires c).After-listed_from-n, c.requires.4), omega (arith, c.if-s-list.false))

pub returns : goal.returns
unfolding list_fault ◌when◌else◌
returns c = rw (← listed (goal.at.returns c).After-listed_from-n, ← c.requires.1, le-ltb _ _ c.if-s-list.false, ← c.requires.2, ← c.distances_fault.ensures)
