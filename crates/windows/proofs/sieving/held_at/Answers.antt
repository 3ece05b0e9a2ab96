-- `held_at` meets its contract. The loop's invariant: the sum is what the first i chains add, and fits.
use Prim.Native.Nat.{◌≤◌, ◌+◌, ◌*◌}
use mathlib.Core.Path.{◌≡◌, refl, ap, ap₂, sym, ◌∙◌}
use native.Mathlib.Omega.{arith}
use native.Mathlib.Nat.{le_of_eq}
use Rattle.windows.specs.Code.Load.{held_rate, held_of}
use Rattle.windows.proofs.Bounds.{busiest, turns_le, held_on}
use Rattle.windows.proofs.sieving.held_at.Goals as goal
use Rattle.windows.proofs.sieving.held_at.Goals.{After-eta_from}

pub loop-i-init : goal.loop-i-init
unfolding held_of
loop-i-init c = (omega arith, refl, omega arith)

pub offset_bounds-held-i : goal.offset_bounds-held-i
offset_bounds-held-i c = omega (arith, c.requires.0.few)

pub bounds-held-i : goal.bounds-held-i
bounds-held-i c = omega (arith, c.requires.0.few, c.requires.0.size)

pub eta_from-requires : goal.eta_from-requires
eta_from-requires c = (c.requires.0.lists c.loop-i.i c.loop-i-test.true, omega (arith, c.requires.1), omega arith)

-- what this chain adds fits
adds-le : (c : After-eta_from) → c.eta_from.result * held_rate c.args.held.now c.loop-i.i ≤ busiest
adds-le c = let i = c.loop-i.i in
    let more = c.loop-i-test.true in
    let a = c.args in
    let p = c.requires in
    turns_le (p.0.lists i more).good c.eta_from.result (held_rate a.held.now i) a.t (le_of_eq c.eta_from.ensures) (p.0.cheap i more) p.1

pub bounds-held-i-in-loop-i : goal.bounds-held-i-in-loop-i
bounds-held-i-in-loop-i c = omega (arith, c.requires.0.few, c.requires.0.size)

pub overflow_mul-sum : goal.overflow_mul-sum
overflow_mul-sum c = omega (arith, adds-le (goal.at.overflow_mul-sum c).After-eta_from)

pub overflow_add-sum : goal.overflow_add-sum
overflow_add-sum c = omega (arith, adds-le (goal.at.overflow_add-sum c).After-eta_from, c.requires.0.few)

pub loop-i-preserved : goal.loop-i-preserved
loop-i-preserved c = let a = c.args in
    let l = c.loop-i in (
      omega arith,
      ap₂ (λ m n. m + n * held_rate a.held.now l.i) l.invariant.1 c.eta_from.ensures
          ∙ sym (held_on a.s.now a.held.now l.i a.t),
      omega (arith, adds-le (goal.at.loop-i-preserved c).After-eta_from),
    )

pub returns : goal.returns
returns c = let a = c.args in
    let l = c.loop-i in
    let e : l.i ≡ a.n = omega arith in
    l.invariant.1 ∙ ap (λ i. held_of a.s.now a.held.now i a.t) e
