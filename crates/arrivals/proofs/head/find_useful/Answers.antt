-- `find_useful` meets its contract. The loop's invariant: the sums below m are put, and the useful steps below m are found.
use Prim.Native.Nat.{ℕ, max, ◌+◌, ◌-◌, ◌%◌, ◌≤◌}
use mathlib.Core.Path.{◌≡◌, ap, sym, subst, ◌∙◌}
use mathlib.Core.List.{List}
use native.Mathlib.Omega.{arith}
use lib.Dec.{ltb}
use lib.ListN.{length, set}
use Rattle.search.specs.Choice.{◌when◌else◌}
use Rattle.table.specs.Limits.{max_distances}
use Rattle.table.specs.Code.Listed.{listed_from, distances_from}
use Rattle.arrivals.specs.Arrivals.{as_listed}
use Rattle.arrivals.specs.Code.Sums.{SumsAt, GreatestTo, UsefulIn}
use Rattle.arrivals.proofs.Heads.{inside, sums_first, sums_next}
use Rattle.arrivals.proofs.Rows.{lists_length, lists-some, lists-inside}
use Rattle.arrivals.proofs.Useful.{useful_first, useful_next, sum_is}
use Rattle.arrivals.proofs.head.find_useful.Goals as goal
use Rattle.arrivals.proofs.head.find_useful.Goals.{After-below, At-loop-m, Start}

abbrev ds : (c : Start) → List ℕ
ds c = distances_from c.args.s.now c.args.list

listed-is : (c : At-loop-m) → c.listed_from-listed.result ≡ length (distances_from c.args.s.now c.args.list)
listed-is c = c.listed_from-listed.ensures.0 ∙ sym (lists_length c.requires.0)

few : (c : At-loop-m) → c.loop-m.m ≤ max_distances + 1
few c = omega (arith, (listed-is c), c.requires.0.good.few, c.loop-m.invariant.1)

abbrev shortest : (c : After-below) → ℕ
shortest c = c.greatest_to-shorter.result

more : (c : After-below) → c.loop-m.m ≤ length (distances_from c.args.s.now c.args.list)
more c = omega (arith, c.listed_from-listed.ensures.0, lists_length c.requires.0, c.loop-m-test.true)

tried : (c : After-below) → GreatestTo (distances_from c.args.s.now c.args.list) c.loop-m.m c.loop-m.m (shortest c)
tried c = let e : c.loop-m.m - 1 + 1 ≡ c.loop-m.m = omega (arith, c.loop-m.invariant.0) in subst (λ j. GreatestTo (distances_from c.args.s.now c.args.list) c.loop-m.m j (shortest c)) e c.greatest_to-shorter.ensures

found-is : (c : After-below) → c.loop-m.n + c.below.result ≡ c.loop-m.n + (1 when ltb (shortest c) (as_listed (distances_from c.args.s.now c.args.list) c.loop-m.m) else 0)
found-is c = ap (λ x. c.loop-m.n + x) (c.below.ensures ∙ ap (λ d. 1 when ltb (shortest c) d else 0) c.as_listed-own.ensures)

useful : (c : After-below) → UsefulIn (distances_from c.args.s.now c.args.list) c.loop-m.m (set c.loop-m.steps c.loop-m.n c.loop-m.m) (c.loop-m.n + c.below.result)
useful c = useful_next (distances_from c.args.s.now c.args.list) c.loop-m.m c.loop-m.n (c.loop-m.n + c.below.result) (shortest c) c.loop-m.steps c.loop-m.invariant.0 (more c) c.requires.0.good.few c.loop-m.invariant.3 (tried c) (found-is c)

pub listed_from-listed-requires : goal.listed_from-listed-requires
listed_from-listed-requires c = lists-inside c.requires.0

pub as_listed-requires : goal.as_listed-requires
as_listed-requires c = (c.requires.0, lists-some c.requires.0)

pub loop-m-init : goal.loop-m-init
loop-m-init c =
    let b = (goal.at.loop-m-init c).Start in
    (omega arith, omega (arith, c.listed_from-listed.ensures.0, lists-some c.requires.0), sums_first (ds b) c.args.sums.now c.as_listed.result c.requires.0.good.some c.requires.1 c.as_listed.ensures, useful_first (ds b) c.args.steps.now c.requires.2)

pub overflow_sub-m : goal.overflow_sub-m
overflow_sub-m c = omega (arith, c.loop-m.invariant.0)

pub greatest_to-shorter-requires : goal.greatest_to-shorter-requires
greatest_to-shorter-requires c =
    let b = (goal.at.greatest_to-shorter-requires c).At-loop-m in
    (c.requires.0, omega arith, omega (arith, listed-is b, lists_length c.requires.0, c.loop-m.invariant.1), omega (arith, few b), c.loop-m.invariant.2)

pub as_listed-own-requires : goal.as_listed-own-requires
as_listed-own-requires c = (c.requires.0, omega (arith, listed-is (goal.at.as_listed-own-requires c).At-loop-m, lists_length c.requires.0, c.loop-m-test.true))

pub offset_bounds-steps-n : goal.offset_bounds-steps-n
offset_bounds-steps-n c = omega (arith, c.loop-m.invariant.3.few, few (goal.at.offset_bounds-steps-n c).At-loop-m)

pub bounds-steps-n : goal.bounds-steps-n
bounds-steps-n c =
    let b = (goal.at.bounds-steps-n c).At-loop-m in
    omega (arith, c.loop-m.invariant.3.few, listed-is b, c.requires.0.good.few, c.loop-m-test.true, c.loop-m.invariant.0)

pub overflow_add-n : goal.overflow_add-n
overflow_add-n c = omega (arith, (useful c).few, few (goal.at.overflow_add-n c).At-loop-m)

pub offset_bounds-sums-m : goal.offset_bounds-sums-m
offset_bounds-sums-m c = omega (arith, inside c.loop-m.m)

pub bounds-sums-m : goal.bounds-sums-m
bounds-sums-m c = inside c.loop-m.m

pub loop-m-preserved : goal.loop-m-preserved
loop-m-preserved c =
    let w = (goal.at.loop-m-preserved c).After-below in
    let d = distances_from c.args.s.now c.args.list in
    let e : c.loop-m.m ≡ c.loop-m.m + 1 - 1 = omega arith in (
      omega (arith, c.loop-m.invariant.0),
      omega arith,
      subst (λ n. SumsAt d n (set c.loop-m.sums (c.loop-m.m % max_distances) c.max.result)) e
          (sums_next d c.loop-m.m c.max.result c.loop-m.sums (omega (arith, c.loop-m.invariant.0)) c.loop-m.invariant.2
          (c.max.ensures ∙ ap (max (shortest w)) c.as_listed-own.ensures
          ∙ sum_is d c.loop-m.m c.loop-m.n (c.loop-m.n + c.below.result) (shortest w) c.loop-m.steps c.loop-m.invariant.0 (more w) c.requires.0.good.few c.loop-m.invariant.3 (tried w) (found-is w))),
      subst (λ n. UsefulIn d n (set c.loop-m.steps c.loop-m.n c.loop-m.m) (c.loop-m.n + c.below.result)) e (useful w),
    )

pub returns : goal.returns
returns c =
    let d = distances_from c.args.s.now c.args.list in
    let e : c.loop-m.m - 1 ≡ listed_from c.args.s.now c.args.list = omega (arith, listed-is (goal.at.returns c).At-loop-m, lists_length c.requires.0, c.loop-m.invariant.1) in
    (subst (λ n. SumsAt d n c.loop-m.sums) e c.loop-m.invariant.2, subst (λ n. UsefulIn d n c.loop-m.steps c.loop-m.n) e c.loop-m.invariant.3)
