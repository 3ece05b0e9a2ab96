-- `better` meets its contract: the products tell which has the greater distance for its length.
use Prim.Native.Nat.{ℕ, ◌*◌, ◌≤◌}
use mathlib.Core.Path.{◌≡◌, refl, ap}
use mathlib.Core.List.{List}
use mathlib.Core.Logic.{inl, inr}
use native.Mathlib.Omega.{arith}
use native.Mathlib.Nat.{le_refl, mul-le-mul}
use Rattle.table.specs.Limits.{max_distances, max_distance}
use Rattle.table.specs.Code.Listed.{listed_from, distances_from}
use Rattle.arrivals.specs.Arrivals.{as_listed}
use Rattle.arrivals.proofs.Lists.{rising, listed-near}
use Rattle.arrivals.proofs.Rows.{lists_length}
use Rattle.arrivals.proofs.head.better.Goals as goal
use Rattle.arrivals.proofs.head.better.Goals.{After-as_listed-2, Start}

abbrev ds : (c : Start) → List ℕ
ds c = distances_from c.args.s.now c.args.list

fits : (c : Start) → (i j : ℕ) → j ≤ listed_from c.args.s.now c.args.list → as_listed (ds c) i * j ≤ max_distance * max_distances
fits c i j h = let few : j ≤ max_distances = omega (arith, h, lists_length c.requires.0, c.requires.0.good.few) in
    mul-le-mul (listed-near (rising c.requires.0.good) i) few

first-is : (c : After-as_listed-2) → c.as_listed.result * c.args.b ≡ as_listed ((distances_from c.args.s.now c.args.list)) c.args.a * c.args.b
first-is c = ap (λ n. n * c.args.b) c.as_listed.ensures

second_is : (c : After-as_listed-2) → c.as_listed-2.result * c.args.a ≡ as_listed ((distances_from c.args.s.now c.args.list)) c.args.b * c.args.a
second_is c = ap (λ n. n * c.args.a) c.as_listed-2.ensures

pub overflow_mul-as_listed : goal.overflow_mul-as_listed
overflow_mul-as_listed c = omega (arith, fits (goal.at.overflow_mul-as_listed c).Start c.args.a c.args.b c.requires.4, ap (λ n. n * c.args.b) c.as_listed.ensures)

pub overflow_mul-as_listed-2 : goal.overflow_mul-as_listed-2
overflow_mul-as_listed-2 c = omega (arith, fits (goal.at.overflow_mul-as_listed-2 c).Start c.args.b c.args.a c.requires.2, ap (λ n. n * c.args.a) c.as_listed-2.ensures)

pub returns-then-as_listed-b : goal.returns-then-as_listed-b
returns-then-as_listed-b c = record { one = inr refl; first = omega (arith, first-is (goal.at.returns-then-as_listed-b c).After-as_listed-2, second_is (goal.at.returns-then-as_listed-b c).After-as_listed-2, c.if-as_listed-b.true); second = le_refl _ }

pub returns-else-as_listed-b : goal.returns-else-as_listed-b
returns-else-as_listed-b c = record { one = inl refl; first = le_refl _; second = omega (arith, first-is (goal.at.returns-else-as_listed-b c).After-as_listed-2, second_is (goal.at.returns-else-as_listed-b c).After-as_listed-2, c.if-as_listed-b.false) }
