-- `delta_by_list` meets its contract: in the first list by the sums; a list that adds up has 01's distances; any other by best steps.
use Prim.Native.Nat.{ℕ, ◌+◌, ◌*◌, ◌<◌}
use mathlib.Core.Path.{◌≡◌, ap, sym, ◌∙◌}
use mathlib.Core.List.{List}
use native.Mathlib.Omega.{arith}
use Rattle.table.specs.Code.Listed.{listed_from, distances_from}
use Rattle.arrivals.specs.Arrivals.{repeated, δ}
use Rattle.arrivals.proofs.Lists.{split-whole}
use Rattle.arrivals.proofs.Distances.{δ-near}
use Rattle.arrivals.proofs.Closed.{adds-up-is}
use Rattle.arrivals.proofs.Heads.{δ-few}
use Rattle.arrivals.proofs.Rows.{lists_length, lists-some}
use Rattle.arrivals.proofs.delta_by_list.Goals as goal
use Rattle.arrivals.proofs.delta_by_list.Goals.{After-as_listed, After-split-before}

abbrev ds : (c : After-split-before) → List ℕ
ds c = distances_from c.args.s.now c.args.list

abbrev listed : (c : After-split-before) → ℕ
listed c = listed_from c.args.s.now c.args.list

whole : (c : After-split-before) → (c.split-before.result.lists * (listed c) + c.split-before.result.rest ≡ c.args.m) × (c.split-before.result.rest < (listed c))
whole c = split-whole c.args.m (lists-some c.requires.0) c.listed_from-listed.ensures.0 c.split-before.ensures.0 c.split-before.ensures.1

pub as_listed-requires : goal.as_listed-requires
as_listed-requires c = (c.requires.0, lists-some c.requires.0)

-- one step or none
few : (c : After-as_listed) → c.args.m * c.as_listed.result ≡ δ (distances_from c.args.s.now c.args.list) (c.args.m + 1)
few c = ap (λ d. c.args.m * d) c.as_listed.ensures ∙ δ-few (distances_from c.args.s.now c.args.list) c.requires.0.good.some c.args.m c.if-m-le1.true

pub overflow_mul-result : goal.overflow_mul-result
overflow_mul-result c = omega (arith, few c, δ-near c.requires.0.good (c.args.m + 1), c.requires.1)

pub returns-then-m-le1 : goal.returns-then-m-le1
returns-then-m-le1 c = few c

pub sum_at-requires : goal.sum_at-requires
sum_at-requires c = (c.requires.0, omega (arith, c.if-m-listed.true, c.listed_from-listed.ensures.0, lists_length c.requires.0, c.requires.0.good.few))

pub split-before-requires : goal.split-before-requires
split-before-requires c = omega (arith, c.listed_from-listed.ensures.0, lists-some c.requires.0)

pub repeated_at-requires : goal.repeated_at-requires
repeated_at-requires c = (c.requires.0, omega (arith, (whole c).1), omega (arith, (whole c).0, c.requires.1))

pub returns-then-adds_up : goal.returns-then-adds_up
returns-then-adds_up c = let n : c.split-before.result.lists * listed (goal.at.returns-then-adds_up c).After-split-before + c.split-before.result.rest + 1 ≡ c.args.m + 1 = omega (arith, (whole (goal.at.returns-then-adds_up c).After-split-before).0) in
    c.repeated_at.ensures ∙ ap (repeated (ds (goal.at.returns-then-adds_up c).After-split-before)) n ∙ sym (adds-up-is c.requires.0.good (c.adds_up.ensures.so c.if-adds_up.true) (c.args.m + 1))

pub distance_past-requires : goal.distance_past-requires
distance_past-requires c = (c.requires.0, omega (arith, c.if-m-listed.false, c.listed_from-listed.ensures.0), c.requires.1)
