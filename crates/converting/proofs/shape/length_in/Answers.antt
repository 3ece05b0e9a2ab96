-- The length by the form asked, and by the gap.
use native.Mathlib.Omega.{arith}
use mathlib.Core.Path.{sym, ◌∙◌}
use Rattle.table.specs.Record.{row_at}
use Rattle.table.specs.declared.Row.{Row}
use Rattle.converting.proofs.Lengths.{gap_length, unknown-length, known-length}
use Rattle.converting.proofs.shape.length_in.Goals as goal
use Rattle.converting.proofs.shape.length_in.Goals.{Start}

-- the row of the record
abbrev row : (c : Start) → Row
row c = row_at c.args.s.now c.args.at

pub returns-in-Gap : goal.returns-in-Gap
unfolding row_at
returns-in-Gap c = rw c.in-Gap.is
    (omega (arith, c.head_length.ensures.0, c.listed_at-listed.ensures.0, c.tasks_at.ensures.0, gap_length (row (goal.at.returns-in-Gap c).Start)))

pub returns-then-gap_at-eq0 : goal.returns-then-gap_at-eq0
unfolding row_at
returns-then-gap_at-eq0 c = let e = unknown-length (row (goal.at.returns-then-gap_at-eq0 c).Start) (sym c.gap_at.ensures ∙ c.if-gap_at-eq0.true) in
    rw c.in-Largest.is
    (omega (arith, c.head_length-then-gap_at-eq0.ensures.0, c.listed_at-listed.ensures.0, c.tasks_at.ensures.0, e))

pub returns-else-gap_at-eq0 : goal.returns-else-gap_at-eq0
unfolding row_at
returns-else-gap_at-eq0 c = let e = known-length (row (goal.at.returns-else-gap_at-eq0 c).Start) (λ z. c.if-gap_at-eq0.false (c.gap_at.ensures ∙ z)) in
    rw c.in-Largest.is
    (omega (arith, c.head_length-else-gap_at-eq0.ensures.0, c.listed_at-listed.ensures.0, c.tasks_at.ensures.0, e))
