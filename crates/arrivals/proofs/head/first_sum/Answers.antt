-- `first_sum` meets its contract. The loop's invariant: the sums up to m are put, and those before m lie below t.
use Prim.Native.Nat.{ℕ, suc, ◌+◌, ◌-◌}
use mathlib.Core.Path.{◌≡◌, ap, subst}
use mathlib.Core.List.{List}
use mathlib.Core.Logic.{inr, ⊎_elim}
use native.Mathlib.Omega.{arith}
use native.Mathlib.Nat.{eq-or-lt_of_le}
use Rattle.table.specs.Code.Listed.{distances_from}
use Rattle.arrivals.specs.Arrivals.{δ}
use Rattle.arrivals.specs.Code.Sums.{SumsAt}
use Rattle.arrivals.proofs.Heads.{inside, sums-here}
use Rattle.arrivals.proofs.head.first_sum.Goals as goal
use Rattle.arrivals.proofs.head.first_sum.Goals.{Start}

abbrev ds : (c : Start) → List ℕ
ds c = distances_from c.args.s.now c.args.list

pub loop-m-init : goal.loop-m-init
loop-m-init c = (omega arith, c.requires.2, λ i h. absurd (omega arith))

pub offset_bounds-sums-m : goal.offset_bounds-sums-m
offset_bounds-sums-m c = omega (arith, inside c.loop-m.m)

pub bounds-sums-m : goal.bounds-sums-m
bounds-sums-m c = inside c.loop-m.m

pub returns-then-t-sums : goal.returns-then-t-sums
returns-then-t-sums c =
    let b = (goal.at.returns-then-t-sums c).Start in
    (record { high = c.loop-m.invariant.0; before = c.loop-m.invariant.2; ends = inr (omega (arith, c.if-t-sums.true, sums-here (ds b) c.loop-m.m c.loop-m.sums c.loop-m.invariant.1)) }, c.loop-m.invariant.1)

pub overflow_add-m : goal.overflow_add-m
overflow_add-m c = omega (arith, c.requires.1)

pub put_sum-requires : goal.put_sum-requires
put_sum-requires c = let e : c.loop-m.m ≡ c.loop-m.m + 1 - 1 = omega arith in
    (c.requires.0, omega arith, omega (arith, c.requires.1, c.loop-m-test.true), subst (λ n. SumsAt (ds (goal.at.put_sum-requires c).Start) n c.loop-m.sums) e c.loop-m.invariant.1)

pub loop-m-preserved : goal.loop-m-preserved
loop-m-preserved c = (
  omega (arith, c.loop-m-test.true),
  c.put_sum.ensures,
  λ i less. ⊎_elim
      (λ e. let same : i ≡ c.loop-m.m = omega arith in
      omega (arith, ap (λ n. δ (ds (goal.at.loop-m-preserved c).Start) (suc n)) same, sums-here (ds (goal.at.loop-m-preserved c).Start) c.loop-m.m c.loop-m.sums c.loop-m.invariant.1, c.if-t-sums.false))
      (λ g. c.loop-m.invariant.2 i (omega arith))
      (eq-or-lt_of_le less),
)
