-- `sum_past` meets its contract. The loop's invariant: the sums up to `at` are put, the last eight of them.
use Prim.Native.Nat.{ℕ, suc, ◌+◌, ◌-◌}
use mathlib.Core.Path.{◌≡◌, refl, ap, sym, subst, ◌∙◌}
use mathlib.Core.List.{List}
use native.Mathlib.Omega.{arith}
use Rattle.table.specs.Code.Listed.{distances_from}
use Rattle.arrivals.specs.Arrivals.{δ}
use Rattle.arrivals.specs.Code.Sums.{SumsAt}
use Rattle.arrivals.proofs.Heads.{inside, sums_none}
use Rattle.arrivals.proofs.Rows.{lists-inside}
use Rattle.arrivals.proofs.head.sum_past.Goals as goal
use Rattle.arrivals.proofs.head.sum_past.Goals.{Start}

abbrev ds : (c : Start) → List ℕ
ds c = distances_from c.args.s.now c.args.list

pub find_useful-n-requires : goal.find_useful-n-requires
find_useful-n-requires c = (c.requires.0, sums_none _ _ refl refl, refl)

pub listed_from-at-requires : goal.listed_from-at-requires
listed_from-at-requires c = lists-inside c.requires.0

pub loop-at-init : goal.loop-at-init
loop-at-init c =
    let b = (goal.at.loop-at-init c).Start in
    (omega (arith, c.listed_from-at.ensures.0), omega (arith, c.listed_from-at.ensures.0), subst (λ n. SumsAt (ds b) n c.find_useful-n.new.sums) (sym c.listed_from-at.ensures.0) c.find_useful-n.ensures.0)

pub overflow_add-at : goal.overflow_add-at
overflow_add-at c = omega (arith, c.requires.2, c.loop-at-test.true)

pub put_by_useful-requires : goal.put_by_useful-requires
put_by_useful-requires c = let e : c.loop-at.at ≡ c.loop-at.at + 1 - 1 = omega arith in
    (c.requires.0, omega (arith, c.loop-at.invariant.0), omega (arith, c.requires.2, c.loop-at-test.true), subst (λ n. SumsAt (ds (goal.at.put_by_useful-requires c).Start) n c.loop-at.sums) e c.loop-at.invariant.2, c.find_useful-n.ensures.1)

pub loop-at-smaller : goal.loop-at-smaller
loop-at-smaller c = omega (arith, c.loop-at-test.true)

pub loop-at-preserved : goal.loop-at-preserved
loop-at-preserved c = (omega (arith, c.loop-at.invariant.0), omega (arith, c.loop-at-test.true), c.put_by_useful.ensures)

pub offset_bounds-sums-m : goal.offset_bounds-sums-m
offset_bounds-sums-m c = omega (arith, inside c.args.m)

pub bounds-sums-m : goal.bounds-sums-m
bounds-sums-m c = inside c.args.m

pub returns : goal.returns
returns c = let e : suc c.args.m ≡ c.args.m + 1 = omega arith in
    c.loop-at.invariant.2.at c.args.m (omega (arith, c.loop-at-test.false)) (omega (arith, c.loop-at.invariant.1, c.requires.1)) ∙ ap (δ (ds (goal.at.returns c).Start)) e
