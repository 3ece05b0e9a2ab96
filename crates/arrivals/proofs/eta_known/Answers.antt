-- `eta_known` meets its contract: 01's distance of `from` steps tells where no more are counted.
use Prim.Native.Nat.{ℕ, ◌+◌, ◌*◌, ◌<◌}
use mathlib.Core.Path.{◌≡◌, ap}
use mathlib.Core.List.{List}
use native.Mathlib.Omega.{arith}
use Rattle.table.specs.Code.Listed.{listed_from, distances_from}
use Rattle.arrivals.specs.Arrivals.{repeated}
use Rattle.arrivals.proofs.Lists.{split-whole}
use Rattle.arrivals.proofs.Distances.{δ-above}
use Rattle.arrivals.proofs.Counts.{η-stops, η-farthest}
use Rattle.arrivals.proofs.Rows.{lists-some}
use Rattle.arrivals.proofs.eta_known.Goals as goal
use Rattle.arrivals.proofs.eta_known.Goals.{After-split-known}

abbrev ds : (c : After-split-known) → List ℕ
ds c = distances_from c.args.s.now c.args.list

abbrev listed : (c : After-split-known) → ℕ
listed c = listed_from c.args.s.now c.args.list

whole : (c : After-split-known) → (c.split-known.result.lists * (listed c) + c.split-known.result.rest ≡ c.args.from) × (c.split-known.result.rest < (listed c))
whole c = split-whole c.args.from (lists-some c.requires.0) c.listed_from.ensures.0 c.split-known.ensures.0 c.split-known.ensures.1

pub split-known-requires : goal.split-known-requires
split-known-requires c = omega (arith, c.listed_from.ensures.0, lists-some c.requires.0)

pub repeated_at-requires : goal.repeated_at-requires
repeated_at-requires c = (c.requires.0, omega (arith, (whole c).1), omega (arith, (whole c).0, c.requires.3, η-farthest c.requires.0.good c.args.t c.requires.2))

pub returns-then-t-repeated_at : goal.returns-then-t-repeated_at
returns-then-t-repeated_at c = let n : c.split-known.result.lists * listed (goal.at.returns-then-t-repeated_at c).After-split-known + c.split-known.result.rest + 1 ≡ c.args.from + 1 = omega (arith, (whole (goal.at.returns-then-t-repeated_at c).After-split-known).0) in
    omega (
      arith,
      c.requires.3,
      η-stops c.requires.0.good c.args.from c.args.t
          (omega (arith, c.if-t-repeated_at.true, c.repeated_at.ensures, ap (repeated (ds (goal.at.returns-then-t-repeated_at c).After-split-known)) n, δ-above c.requires.0.good (c.args.from + 1))),
    )

pub eta_past-requires : goal.eta_past-requires
eta_past-requires c = (c.requires.0, omega (arith, c.requires.1, c.requires.3), c.requires.2)
