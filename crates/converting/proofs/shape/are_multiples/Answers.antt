-- The loop has found the first i largest distances to be multiples.
use Prim.Native.Nat.{◌+◌, ◌*◌, ◌≤◌, ◌<◌}
use native.Mathlib.Omega.{arith}
use native.Mathlib.Nat.{mul-le-mul}
use mathlib.Core.Path.{◌≡◌, ap, sym, ◌∙◌}
use borrow.Author.Count.{below_more}
use Rattle.table.specs.Limits.{max_distances, max_largest}
use Rattle.table.specs.Record.{listed_at, known_at, row_at, largests}
use Rattle.table.specs.declared.Row.{Row}
use Rattle.table.proofs.Largests.{largests-at}
use Rattle.slices.proofs.Sameness.{same-yes, same_no}
use Rattle.converting.specs.Forms.{multiples, first_largest}
use Rattle.converting.proofs.Gaps.{multiples-yes, multiples-each, known-there}
use Rattle.converting.proofs.shape.are_multiples.Goals as goal
use Rattle.converting.proofs.shape.are_multiples.Goals.{In-loop-i, Start}

-- the row of the record
abbrev row : (c : Start) → Row
row c = row_at c.args.s.now c.args.at

known : (c : Start) → (known_at c.args.s.now c.args.at ≡ listed_at c.args.s.now c.args.at) × (0 < listed_at c.args.s.now c.args.at) × (listed_at c.args.s.now c.args.at ≤ max_distances)
unfolding row_at
known c = known-there c.requires.0 c.requires.1

-- the loop's number is one of the listed
below : (c : In-loop-i) → c.loop-i.i < max_distances
unfolding row_at
below c = omega (arith, known-there c.requires.0 c.requires.1, c.listed_at-listed.ensures.0, c.loop-i-test.true)

pub listed_at-listed-requires : goal.listed_at-listed-requires
listed_at-listed-requires c = omega (arith, c.requires.0.there)

pub largest_at-gap-requires : goal.largest_at-gap-requires
largest_at-gap-requires c = (c.requires.0, omega (arith, known (goal.at.largest_at-gap-requires c).Start))

pub loop-i-init : goal.loop-i-init
loop-i-init c = (omega arith, λ j h. absurd (omega (arith, h)))

pub largest_at-requires : goal.largest_at-requires
largest_at-requires c = (c.requires.0, omega (arith, known (goal.at.largest_at-requires c).Start, c.listed_at-listed.ensures.0, c.loop-i-test.true))

pub overflow_cast-i : goal.overflow_cast-i
overflow_cast-i c = omega (arith, below (goal.at.overflow_cast-i c).In-loop-i)

pub overflow_add-i : goal.overflow_add-i
overflow_add-i c = omega (arith, below (goal.at.overflow_add-i c).In-loop-i)

pub overflow_mul-gap : goal.overflow_mul-gap
overflow_mul-gap c = let h : c.loop-i.i + 1 ≤ max_distances = omega (arith, below (goal.at.overflow_mul-gap c).In-loop-i) in
    let g : c.largest_at-gap.result ≤ max_largest = omega (arith, c.largest_at-gap.ensures, largests-at c.requires.0.good 0, c.requires.0.good.largest.near 0) in
    omega (arith, mul-le-mul g h)

pub returns-then-largest_at-gap : goal.returns-then-largest_at-gap
unfolding row_at
returns-then-largest_at-gap c = let l = c.loop-i in
    let h : l.i < (row (goal.at.returns-then-largest_at-gap c).Start).listed = omega (arith, c.listed_at-listed.ensures.0, c.loop-i-test.true) in
    sym (same_no (largests (row (goal.at.returns-then-largest_at-gap c).Start)) (multiples (first_largest (row (goal.at.returns-then-largest_at-gap c).Start)) (row (goal.at.returns-then-largest_at-gap c).Start).listed)
    (λ e. c.if-largest_at-gap.true (c.largest_at.ensures ∙ multiples-each c.requires.0.good c.requires.1 e l.i h ∙ ap (λ g. g * (l.i + 1)) (sym c.largest_at-gap.ensures))))

pub loop-i-preserved : goal.loop-i-preserved
loop-i-preserved c = let l = c.loop-i in (
  omega (arith, c.loop-i-test.true),
  below_more _ _ l.invariant.1 (sym c.largest_at.ensures ∙ c.if-largest_at-gap.false ∙ ap (λ g. g * (l.i + 1)) c.largest_at-gap.ensures),
)

pub returns : goal.returns
unfolding row_at
returns c = sym (same-yes (largests (row (goal.at.returns c).Start)) (multiples (first_largest (row (goal.at.returns c).Start)) (row (goal.at.returns c).Start).listed)
    (multiples-yes c.requires.0.good c.requires.1 (λ j h. c.loop-i.invariant.1 j (omega (arith, h, c.listed_at-listed.ensures.0, c.loop-i-test.false)))))
