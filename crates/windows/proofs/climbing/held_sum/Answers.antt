-- `held_sum` meets its contract. The loop's invariant: the sum is what the first i chains add, and fits, and these are counted.
use Prim.Native.Nat.{◌≤◌, ◌+◌, ◌*◌}
use mathlib.Core.Path.{◌≡◌, refl, ap, ap₂, sym, subst, ◌∙◌}
use native.Mathlib.Omega.{arith}
use native.Mathlib.Nat.{le_of_eq}
use Rattle.windows.specs.Code.Load.{held_rate, held_of}
use Rattle.windows.specs.Code.Climb.{Behind}
use Rattle.windows.proofs.Bounds.{busiest, turns_le, held_on}
use Rattle.windows.proofs.Counting.{behind-next, own-stays}
use Rattle.windows.proofs.climbing.held_sum.Goals as goal
use Rattle.windows.proofs.climbing.held_sum.Goals.{After-eta_from-count}

pub loop-i-init : goal.loop-i-init
unfolding held_of
loop-i-init c = (omega arith, refl, omega arith, c.requires.2, refl)

pub offset_bounds-held-i : goal.offset_bounds-held-i
offset_bounds-held-i c = omega (arith, c.requires.0.few)

pub bounds-held-i : goal.bounds-held-i
bounds-held-i c = omega (arith, c.requires.0.few, c.requires.0.size)

pub bounds-counts-i : goal.bounds-counts-i
bounds-counts-i c = omega (arith, c.requires.0.few, c.loop-i.invariant.3.size)

pub eta_from-count-requires : goal.eta_from-count-requires
eta_from-count-requires c = let l = c.loop-i in
    let more = c.loop-i-test.true in
    (c.requires.0.lists l.i more, omega (arith, c.requires.1), l.invariant.3.rest l.i more)

pub bounds-counts-i-in-loop-i : goal.bounds-counts-i-in-loop-i
bounds-counts-i-in-loop-i c = omega (arith, c.requires.0.few, c.loop-i.invariant.3.size)

-- what this chain adds fits
adds-le : (c : After-eta_from-count) → c.eta_from-count.result * held_rate c.args.held.now c.loop-i.i ≤ busiest
adds-le c = let i = c.loop-i.i in
    let more = c.loop-i-test.true in
    let a = c.args in
    let p = c.requires in
    turns_le (p.0.lists i more).good c.eta_from-count.result (held_rate a.held.now i) a.t (le_of_eq c.eta_from-count.ensures) (p.0.cheap i more) (omega (arith, p.1))

pub bounds-held-i-in-loop-i : goal.bounds-held-i-in-loop-i
bounds-held-i-in-loop-i c = omega (arith, c.requires.0.few, c.requires.0.size)

pub overflow_mul-sum : goal.overflow_mul-sum
overflow_mul-sum c = omega (arith, adds-le (goal.at.overflow_mul-sum c).After-eta_from-count)

pub overflow_add-sum : goal.overflow_add-sum
overflow_add-sum c = omega (arith, adds-le (goal.at.overflow_add-sum c).After-eta_from-count, c.requires.0.few)

pub loop-i-preserved : goal.loop-i-preserved
loop-i-preserved c = let a = c.args in
    let l = c.loop-i in (
      omega arith,
      ap₂ (λ m n. m + n * held_rate a.held.now l.i) l.invariant.1 c.eta_from-count.ensures
          ∙ sym (held_on a.s.now a.held.now l.i a.t),
      omega (arith, adds-le (goal.at.loop-i-preserved c).After-eta_from-count),
      behind-next l.invariant.3 c.loop-i-test.true c.requires.0.few c.eta_from-count.result c.eta_from-count.ensures,
      own-stays l.counts l.i c.eta_from-count.result (omega (arith, c.requires.0.few)) ∙ l.invariant.4,
    )

pub returns : goal.returns
returns c = let a = c.args in
    let l = c.loop-i in
    let e : l.i ≡ a.n = omega arith in (
      l.invariant.1 ∙ ap (λ i. held_of a.s.now a.held.now i a.t) e,
      record { all = subst (λ i. Behind a.s.now a.held.now i a.n a.t l.counts) e l.invariant.3; own = l.invariant.4 },
    )
