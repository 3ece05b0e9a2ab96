-- `largest` meets its contract: by the gap, or by whole lists and the rest; both fit, since the largest distance does.
use Prim.Native.Nat.{ℕ, ◌+◌, ◌*◌, ◌-◌, ◌≤◌, ◌<◌}
use mathlib.Core.Path.{◌≡◌, refl, ap, sym, ◌∙◌}
use mathlib.Core.List.{List}
use native.Mathlib.Omega.{arith}
use lib.ListN.{length}
use Rattle.table.specs.Limits.{max_run, max_largest}
use Rattle.table.specs.Record.{known_at, row_at, largests}
use Rattle.table.specs.declared.Row.{Row}
use Rattle.table.proofs.Forms.{known-yes}
use Rattle.arrivals.specs.Arrivals.{as_listed, largest}
use Rattle.arrivals.proofs.Lists.{split-whole, read-lists}
use Rattle.arrivals.proofs.Rows.{stands-some, largest-by-gap, largest-by-lists, largest-near}
use Rattle.arrivals.proofs.largest.Goals as goal
use Rattle.arrivals.proofs.largest.Goals.{After-gap_at, After-split-before, Start}

abbrev row : (c : Start) → Row
row c = row_at c.args.s.now c.args.at

-- by the gap
by_gap : (c : After-gap_at) → (c.args.k - 1) * c.gap_at.result ≡ largest (row_at c.args.s.now c.args.at) c.args.k
unfolding row_at
by_gap c = ap (λ g. (c.args.k - 1) * g) c.gap_at.ensures
    ∙ sym (largest-by-gap (row_at c.args.s.now c.args.at) c.args.k (λ e. c.if-flag_at-ne1.true (c.flag_at.ensures ∙ e)))

abbrev ls : (c : After-split-before) → List ℕ
ls c = largests (row_at c.args.s.now c.args.at)

flagged : (c : After-split-before) → (row_at c.args.s.now c.args.at).flag ≡ 1
unfolding row_at
flagged c = sym c.flag_at.ensures ∙ c.if-flag_at-ne1.false

known_read : (c : After-split-before) → c.listed_at-listed.result ≡ known_at c.args.s.now c.args.at
unfolding row_at
known_read c = c.listed_at-listed.ensures.0 ∙ sym (known-yes c.args.s.now c.args.at (flagged c))

long : (c : After-split-before) → c.listed_at-listed.result ≡ length (ls c)
unfolding row_at
long c = known_read c ∙ sym c.requires.0.good.largest_listed

whole : (c : After-split-before) → (c.split-before.result.lists * length (ls c) + c.split-before.result.rest ≡ c.args.k - 1) × (c.split-before.result.rest < length (ls c))
whole c = split-whole (c.args.k - 1) (omega (arith, long c, c.listed_at-listed.ensures.0, stands-some c.requires.0)) (long c) c.split-before.ensures.0 c.split-before.ensures.1

by-lists : (c : After-split-before)
    → largest (row_at c.args.s.now c.args.at) c.args.k ≡ c.split-before.result.lists * as_listed (ls c) (length (ls c)) + as_listed (ls c) c.split-before.result.rest
by-lists c =
    let split = c.split-before.result in
    largest-by-lists c.requires.0.good (flagged c) c.args.k split.lists split.rest c.requires.1 (whole c).0 (whole c).1

near : (c : Start) → largest (row c) c.args.k ≤ max_run * max_largest
near c = largest-near c.requires.0.good c.args.k c.requires.2

-- what was read of whole lists and of the rest is the definition's
all : (c : After-split-before) {listed part : ℕ} → listed ≡ as_listed (ls c) c.listed_at-listed.result → part ≡ as_listed (ls c) c.split-before.result.rest
    → c.split-before.result.lists * listed + part ≡ largest (row_at c.args.s.now c.args.at) c.args.k
all c listed part = read-lists (ls c) c.split-before.result.lists c.split-before.result.rest (long c) listed part ∙ sym (by-lists c)

pub overflow_mul-result : goal.overflow_mul-result
overflow_mul-result c = omega (arith, by_gap c, near (goal.at.overflow_mul-result c).Start)

pub returns-then-flag_at-ne1 : goal.returns-then-flag_at-ne1
returns-then-flag_at-ne1 c = by_gap c

pub split-before-requires : goal.split-before-requires
split-before-requires c = omega (arith, c.listed_at-listed.ensures.0, stands-some c.requires.0)

pub largest_listed-requires : goal.largest_listed-requires
largest_listed-requires c = (c.requires.0, omega (arith, known_read c))

pub overflow_mul-result-2 : goal.overflow_mul-result-2
overflow_mul-result-2 c =
    omega (arith, all (goal.at.overflow_mul-result-2 c).After-split-before c.largest_listed.ensures refl, near (goal.at.overflow_mul-result-2 c).Start)

pub largest_listed-requires-2 : goal.largest_listed-requires-2
largest_listed-requires-2 c =
    let b = (goal.at.largest_listed-requires-2 c).After-split-before in
    (c.requires.0, omega (arith, (whole b).1, long b, known_read b))

pub overflow_add-result : goal.overflow_add-result
overflow_add-result c =
    let b = (goal.at.overflow_add-result c).After-split-before in
    omega (arith, all b c.largest_listed.ensures c.largest_listed-2.ensures, near (goal.at.overflow_add-result c).Start)

pub returns : goal.returns
returns c = all (goal.at.returns c).After-split-before c.largest_listed.ensures c.largest_listed-2.ensures
