-- By the form asked, and by how many largest distances there are.
use native.Mathlib.Omega.{arith}
use mathlib.Core.Path.{sym}
use Rattle.table.specs.Record.{row_at}
use Rattle.converting.proofs.forms.gap_in.Goals as goal

pub returns-then-known_at-eq0 : goal.returns-then-known_at-eq0
unfolding row_at
returns-then-known_at-eq0 c = rw c.in-Gap.is (sym (c.requires.good.largest_past 0 (omega (arith, c.known_at.ensures.0, c.if-known_at-eq0.true))))

pub returns-else-known_at-eq0 : goal.returns-else-known_at-eq0
returns-else-known_at-eq0 c = rw c.in-Gap.is c.largest_at.ensures
