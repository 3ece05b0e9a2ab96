-- None without a gap that is known, else its multiples.
use native.Mathlib.Omega.{arith}
use mathlib.Core.Path.{◌≡◌, ap, ap₂, sym, subst, ◌∙◌}
use Rattle.table.specs.Limits.{max_distances}
use Rattle.table.specs.Record.{pad, row_at, known_of}
use Rattle.table.specs.declared.Row.{Row}
use Rattle.slices.specs.Code.Wrote.{Wrote}
use Rattle.slices.proofs.Writes.{wrote_none}
use Rattle.writing.specs.Rows.{pieces, list_bytes}
use Rattle.converting.specs.Forms.{multiples, converted}
use Rattle.converting.proofs.Lengths.{none-with-gap, none-unknown, all_known}
use Rattle.converting.proofs.Puts.{small-enough}
use Rattle.converting.proofs.record.put_largest.Goals as goal
use Rattle.converting.proofs.record.put_largest.Goals.{Start}

abbrev row : (c : Start) → Row
row c = row_at c.args.s.now c.args.at

-- none is put
none : (c : Start) → known_of (converted c.args.to (row c)) ≡ 0
    → Wrote c.args.out.now c.args.next (list_bytes (converted c.args.to (row c)).largest (known_of (converted c.args.to (row c)))) c.args.out.now c.args.next
unfolding pieces
none c e = rw e (wrote_none c.args.out.now c.args.next (omega (arith, c.requires.1)))

pub returns-then-gap-eq0 : goal.returns-then-gap-eq0
unfolding row_at
returns-then-gap-eq0 c = none (goal.at.returns-then-gap-eq0 c).Start (ap (λ t. known_of (converted t (row (goal.at.returns-then-gap-eq0 c).Start))) c.in-Largest.is ∙ none-unknown (row (goal.at.returns-then-gap-eq0 c).Start) (sym c.gap_at-gap.ensures ∙ c.if-gap-eq0.true))

pub multiples-largest-requires : goal.multiples-largest-requires
unfolding row_at
multiples-largest-requires c = let good = small-enough c.requires.0.good in
    (omega (arith, c.gap_at-gap.ensures, good.0), omega (arith, c.listed_at-listed.ensures.0, good.1))

pub put_list-requires : goal.put_list-requires
unfolding row_at
put_list-requires c = let known = ap (λ t. known_of (converted t (row (goal.at.put_list-requires c).Start))) c.in-Largest.is ∙ all_known (row (goal.at.put_list-requires c).Start) (λ z. c.if-gap-eq0.false (c.gap_at-gap.ensures ∙ z)) in
    (omega (arith, c.listed_at-listed.ensures.0, c.requires.0.good.listed, c.requires.0.good.list.some), omega (arith, c.listed_at-listed.ensures.0, (small-enough c.requires.0.good).1), omega (arith, c.requires.1, known, c.listed_at-listed.ensures.0))

pub returns-else-gap-eq0 : goal.returns-else-gap-eq0
unfolding row_at
returns-else-gap-eq0 c = let told = c.in-Largest.is in
    let gap = c.gap_at-gap.ensures in
    let known = ap (λ t. known_of (converted t (row (goal.at.returns-else-gap-eq0 c).Start))) told ∙ all_known (row (goal.at.returns-else-gap-eq0 c).Start) (λ z. c.if-gap-eq0.false (gap ∙ z)) in
    let put = c.put_list in
    let largest = c.multiples-largest.ensures ∙ ap₂ (λ g n. pad max_distances (multiples g n)) gap c.listed_at-listed.ensures.0 ∙ ap (λ t. (converted t (row (goal.at.returns-else-gap-eq0 c).Start)).largest) (sym told) in
    subst (λ text. Wrote c.args.out.now c.args.next text put.new.out put.result) (ap₂ list_bytes largest (c.listed_at-listed.ensures.0 ∙ sym known)) put.ensures

pub returns-in-Gap : goal.returns-in-Gap
returns-in-Gap c = none (goal.at.returns-in-Gap c).Start (ap (λ t. known_of (converted t (row (goal.at.returns-in-Gap c).Start))) c.in-Gap.is ∙ none-with-gap (row (goal.at.returns-in-Gap c).Start))
