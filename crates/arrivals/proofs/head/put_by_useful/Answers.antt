-- `put_by_useful` meets its contract. The loop's invariant: of the useful steps passed none comes to more than `best`.
use Prim.Native.Nat.{ℕ, suc, zero-le, ◌-◌, ◌%◌, ◌<◌, ◌≤◌}
use mathlib.Core.Path.{◌≡◌, sym, subst}
use mathlib.Core.List.{List}
use native.Mathlib.Omega.{arith}
use lib.ListN.{length, get_or, take}
use Rattle.std.proofs.Common.{length-take}
use Rattle.std.proofs.lemmas.List.{get_or-take}
use Rattle.table.specs.Limits.{max_distances}
use Rattle.table.specs.Code.Listed.{listed_from, distances_from}
use Rattle.arrivals.specs.Arrivals.{δ}
use Rattle.arrivals.specs.Code.Sums.{UsefulIn}
use Rattle.arrivals.proofs.Distances.{δ-far}
use Rattle.arrivals.proofs.Heads.{sums_next}
use Rattle.arrivals.proofs.Lists.{rising, listed-near}
use Rattle.arrivals.proofs.Rows.{lists_length}
use Rattle.arrivals.proofs.Useful.{GreatestBy, by-on, by_all}
use Rattle.arrivals.proofs.head.put_by_useful.Goals as goal
use Rattle.arrivals.proofs.head.put_by_useful.Goals.{In-loop-step, Start}

abbrev ds : (c : Start) → List ℕ
ds c = distances_from c.args.s.now c.args.list

long : (c : Start) → length (ds c) ≡ listed_from c.args.s.now c.args.list
long c = lists_length c.requires.0

few : (c : Start) → c.args.n ≤ max_distances
few c = omega (arith, c.requires.4.few, long c, c.requires.0.good.few)

more : (c : In-loop-step) → c.loop-step.step-index < c.args.n
more c = omega (arith, length-take c.args.n c.args.steps.now, c.loop-step-test.true)

abbrev step : (c : In-loop-step) → ℕ
step c = get_or c.args.steps.now c.loop-step.step-index 0

-- it is one of those found
read : (c : In-loop-step) → get_or (take c.args.n c.args.steps.now) c.loop-step.step-index 0 ≡ step c
read c = get_or-take c.args.n c.args.steps.now c.loop-step.step-index 0 (more c)

low : (c : In-loop-step) → 1 ≤ step c
low c = c.requires.4.low c.loop-step.step-index (more c)

high : (c : In-loop-step) → step c ≤ listed_from c.args.s.now c.args.list
high c = c.requires.4.high c.loop-step.step-index (more c)

within : (c : In-loop-step) → step c ≤ c.args.m
within c = omega (arith, high c, c.requires.1)

-- the sum before that step
earlier : (c : In-loop-step) → get_or c.args.sums.now ((c.args.m - step c) % max_distances) 0 ≡ δ (distances_from c.args.s.now c.args.list) (suc (c.args.m - step c))
earlier c = c.requires.3.at (c.args.m - step c) (omega (arith, low c))
    (omega (arith, high c, within c, lists_length c.requires.0, c.requires.0.good.few))

pub shared_ref_as_front-useful : goal.shared_ref_as_front-useful
shared_ref_as_front-useful c = few (goal.at.shared_ref_as_front-useful c).Start

pub loop-step-init : goal.loop-step-init
loop-step-init c = record { within = zero-le; each = λ i h. absurd (omega arith) }

pub overflow_add-as_listed : goal.overflow_add-as_listed
overflow_add-as_listed c =
    let l = (goal.at.overflow_add-as_listed c).In-loop-step in
    rw (c.as_listed.ensures, read l)
    (omega (arith, listed-near (rising c.requires.0.good) (step l), earlier l, δ-far c.requires.0.good (c.args.m - step l), c.requires.2))

pub loop-step-preserved : goal.loop-step-preserved
loop-step-preserved c =
    let l = (goal.at.loop-step-preserved c).In-loop-step in
    let d = distances_from c.args.s.now c.args.list in
    let x = get_or c.args.sums.now ((c.args.m - step l) % max_distances) 0 in
    rw (c.max-best.ensures, c.as_listed.ensures, read l)
    (by-on d c.args.steps.now c.args.m c.loop-step.step-index c.loop-step.best x (low l) (omega (arith, high l, lists_length c.requires.0)) (within l) c.loop-step.invariant (earlier l))

pub returns : goal.returns
returns c =
    let b = (goal.at.returns c).Start in
    let d = distances_from c.args.s.now c.args.list in
    let all : c.loop-step.step-index ≡ c.args.n =
    omega (arith, c.loop-step.auto.step-index-end, c.loop-step-test.false, length-take c.args.n c.args.steps.now, few b) in
    sums_next d c.args.m c.loop-step.best c.args.sums.now (omega (arith, c.requires.1)) c.requires.3
    (by_all d c.args.steps.now c.args.m c.args.n c.loop-step.best c.requires.0.good.some (omega (arith, c.requires.1))
    (subst (λ n. UsefulIn d n c.args.steps.now c.args.n) (sym (long b)) c.requires.4)
    (subst (λ k. GreatestBy d c.args.steps.now c.args.m k c.loop-step.best) all c.loop-step.invariant))
