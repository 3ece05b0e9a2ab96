-- `repeated_at` meets its contract: after whole lists the rule goes on as listed, and it fits.
use Prim.Native.Nat.{ℕ, ◌+◌, ◌*◌, ◌≤◌}
use mathlib.Core.Path.{◌≡◌, refl, ap, sym, ◌∙◌}
use mathlib.Core.List.{List}
use native.Mathlib.Omega.{arith}
use lib.ListN.{length}
use Rattle.table.specs.Limits.{max_distance}
use Rattle.table.specs.Code.Listed.{listed_from, distances_from}
use Rattle.arrivals.specs.Arrivals.{as_listed, repeated}
use Rattle.arrivals.specs.Code.Bounds.{farthest}
use Rattle.arrivals.proofs.Lists.{rising, repeated-after, read-lists}
use Rattle.arrivals.proofs.Repeating.{repeated-bounded}
use Rattle.arrivals.proofs.Rows.{lists_length, lists-inside}
use Rattle.arrivals.proofs.repetition.repeated_at.Goals as goal
use Rattle.arrivals.proofs.repetition.repeated_at.Goals.{After-listed_from, Start}

-- the chain's distances, and the activation asked for
abbrev ds : (c : Start) → List ℕ
ds c = distances_from c.args.s.now c.args.list

abbrev n : (c : Start) → ℕ
n c = c.args.i * listed_from c.args.s.now c.args.list + c.args.j + 1

by-lists : (c : Start) → repeated (ds c) (n c) ≡ c.args.i * as_listed (ds c) (length (ds c)) + as_listed (ds c) c.args.j
by-lists c = ap (λ l. repeated (ds c) (c.args.i * l + c.args.j + 1)) (sym (lists_length c.requires.0))
    ∙ repeated-after (rising c.requires.0.good) c.args.i c.args.j (omega (arith, lists_length c.requires.0, c.requires.1))

near : (c : Start) → repeated (ds c) (n c) ≤ farthest * max_distance
near c = omega (arith, repeated-bounded (rising c.requires.0.good) (n c), c.requires.2)

long : (c : After-listed_from) → c.listed_from.result ≡ length (distances_from c.args.s.now c.args.list)
long c = c.listed_from.ensures.0 ∙ sym (lists_length c.requires.0)

pub listed_from-requires : goal.listed_from-requires
listed_from-requires c = lists-inside c.requires.0

pub as_listed-requires : goal.as_listed-requires
as_listed-requires c = (c.requires.0, omega (arith, c.listed_from.ensures.0))

pub overflow_mul-result : goal.overflow_mul-result
overflow_mul-result c =
    let b = (goal.at.overflow_mul-result c).Start in
    omega (arith, read-lists (ds b) c.args.i c.args.j (long (goal.at.overflow_mul-result c).After-listed_from) c.as_listed.ensures refl, by-lists b, near b)

pub as_listed-requires-2 : goal.as_listed-requires-2
as_listed-requires-2 c = (c.requires.0, c.requires.1)

pub overflow_add-result : goal.overflow_add-result
overflow_add-result c =
    let b = (goal.at.overflow_add-result c).Start in
    omega (arith, read-lists (ds b) c.args.i c.args.j (long (goal.at.overflow_add-result c).After-listed_from) c.as_listed.ensures c.as_listed-2.ensures, by-lists b, near b)

pub returns : goal.returns
returns c =
    let b = (goal.at.returns c).Start in
    read-lists (ds b) c.args.i c.args.j (long (goal.at.returns c).After-listed_from) c.as_listed.ensures c.as_listed-2.ensures ∙ sym (by-lists b)
