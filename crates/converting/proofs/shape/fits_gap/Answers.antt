-- The flag, the first largest distance, then the others.
use native.Mathlib.Omega.{arith}
use mathlib.Core.Path.{◌≡◌, sym, ◌∙◌}
use Rattle.table.specs.Record.{flag_at, row_at}
use Rattle.table.specs.declared.Row.{Row}
use Rattle.converting.proofs.Gaps.{fits-unknown, fits-wide, fits-multiples, known-there}
use Rattle.converting.proofs.shape.fits_gap.Goals as goal
use Rattle.converting.proofs.shape.fits_gap.Goals.{Start}

-- the row of the record
abbrev row : (c : Start) → Row
row c = row_at c.args.s.now c.args.at

-- a flag that is not 0 is 1
known : (c : Start) → (flag_at c.args.s.now c.args.at ≡ 0 → ⊥) → (row c).flag ≡ 1
unfolding row_at
known c h = omega (arith, h, c.requires.good.flag)

pub returns-then-flag_at-eq0 : goal.returns-then-flag_at-eq0
unfolding row_at
returns-then-flag_at-eq0 c = sym (fits-unknown (row (goal.at.returns-then-flag_at-eq0 c).Start) (sym c.flag_at.ensures ∙ c.if-flag_at-eq0.true))

pub largest_at-requires : goal.largest_at-requires
unfolding row_at
largest_at-requires c = (c.requires, omega (arith, known-there c.requires (known (goal.at.largest_at-requires c).Start (λ z. c.if-flag_at-eq0.false (c.flag_at.ensures ∙ z)))))

pub returns-then-largest_at-gt-GAP : goal.returns-then-largest_at-gt-GAP
unfolding row_at
returns-then-largest_at-gt-GAP c = sym (fits-wide (row (goal.at.returns-then-largest_at-gt-GAP c).Start) (λ z. c.if-flag_at-eq0.false (c.flag_at.ensures ∙ z)) (omega (arith, c.largest_at.ensures, c.if-largest_at-gt-GAP.true)))

pub are_multiples-requires : goal.are_multiples-requires
are_multiples-requires c = (c.requires, known (goal.at.are_multiples-requires c).Start (λ z. c.if-flag_at-eq0.false (c.flag_at.ensures ∙ z)))

pub returns : goal.returns
unfolding row_at
returns c = c.are_multiples.ensures ∙ sym (fits-multiples (row (goal.at.returns c).Start) (λ z. c.if-flag_at-eq0.false (c.flag_at.ensures ∙ z)) (omega (arith, c.largest_at.ensures, c.if-largest_at-gt-GAP.false)))
