-- `adds_with` meets its contract. The loop's invariant: a step of i adds up with each shorter than j.
use Prim.Native.Nat.{ℕ, ◌+◌, ◌≤◌}
use mathlib.Core.Path.{◌≡◌}
use mathlib.Core.List.{List}
use native.Mathlib.Omega.{arith}
use borrow.Author.Count.{below_more}
use Rattle.search.proofs.Choice.{tells-so, tells-not}
use Rattle.table.specs.Limits.{max_distances, max_distance}
use Rattle.table.specs.Code.Listed.{distances_from}
use Rattle.arrivals.specs.Arrivals.{as_listed, repeated}
use Rattle.arrivals.proofs.Lists.{rising, listed-near}
use Rattle.arrivals.proofs.Rows.{lists_length}
use Rattle.arrivals.proofs.head.adds_with.Invariants.{Adds}
use Rattle.arrivals.proofs.head.adds_with.Goals as goal
use Rattle.arrivals.proofs.head.adds_with.Goals.{After-as_listed}

pub as_listed-own-requires : goal.as_listed-own-requires
as_listed-own-requires c = (c.requires.0, c.requires.1)

pub loop-j-init : goal.loop-j-init
loop-j-init c = λ k l h. absurd (omega arith)

abbrev ds : (c : After-as_listed) → List ℕ
ds c = distances_from c.args.s.now c.args.list

own : (c : After-as_listed) → c.as_listed-own.result ≡ as_listed (ds c) c.args.i
own c = c.as_listed-own.ensures

other : (c : After-as_listed) → c.as_listed.result ≡ as_listed (ds c) c.loop-j.j
other c = omega (arith, c.as_listed.ensures)

both : (c : After-as_listed) → c.repeated_to.result ≡ repeated (ds c) (c.args.i + c.loop-j.j + 1)
both c = c.repeated_to.ensures

near : (c : After-as_listed) → (j : ℕ) → as_listed (ds c) j ≤ max_distance
near c = listed-near (rising c.requires.0.good)

few : (c : After-as_listed) → c.args.i ≤ max_distances
few c = omega (arith, c.requires.1, lists_length c.requires.0, c.requires.0.good.few)

pub overflow_add-i : goal.overflow_add-i
overflow_add-i c = omega (arith, c.requires.1, lists_length c.requires.0, c.requires.0.good.few)

pub repeated_to-requires : goal.repeated_to-requires
repeated_to-requires c = (c.requires.0, omega (arith, c.requires.1))

pub as_listed-requires : goal.as_listed-requires
as_listed-requires c = (c.requires.0, omega (arith, c.requires.1))

pub overflow_add-own : goal.overflow_add-own
overflow_add-own c = omega (arith, own c, other c, near c c.args.i, near c c.loop-j.j)

-- they come to no more where the test says so
adds : (c : After-as_listed) → c.as_listed-own.result + c.as_listed.result ≤ c.repeated_to.result → Adds (ds c) c.args.i c.loop-j.j
adds c h = omega (arith, own c, other c, both c, h)

pub returns-then-repeated_to-own : goal.returns-then-repeated_to-own
returns-then-repeated_to-own c =
    let l = (goal.at.returns-then-repeated_to-own c).After-as_listed in
    tells-not (λ a. omega (arith, own l, other l, both l, c.if-repeated_to-own.true, a.adds c.loop-j.j c.loop-j.auto.j (omega (arith, c.loop-j-test.true))))

pub loop-j-preserved : goal.loop-j-preserved
loop-j-preserved c = below_more _ _ c.loop-j.invariant (λ l. adds (goal.at.loop-j-preserved c).After-as_listed c.if-repeated_to-own.false)

pub returns : goal.returns
returns c = tells-so (record { adds = λ j low h. c.loop-j.invariant j (omega (arith, c.loop-j-test.false)) low })
