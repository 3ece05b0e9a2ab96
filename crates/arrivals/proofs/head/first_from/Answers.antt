-- `first_from` meets its contract. The loop's invariant: those before r lie below t.
use Prim.Native.Nat.{◌%◌}
use mathlib.Core.Path.{◌≡◌, ap}
use mathlib.Core.Logic.{inr, ⊎_elim}
use native.Mathlib.Omega.{arith}
use native.Mathlib.Nat.{eq-or-lt_of_le, le_refl}
use lib.ListN.{get_or}
use Rattle.table.specs.Limits.{max_distances}
use Rattle.arrivals.proofs.Heads.{inside}
use Rattle.arrivals.proofs.head.first_from.Goals as goal

pub loop-r-init : goal.loop-r-init
loop-r-init c = (le_refl c.args.from, c.requires.0, λ i l h. absurd (omega arith))

pub offset_bounds-sums-r : goal.offset_bounds-sums-r
offset_bounds-sums-r c = omega (arith, inside c.loop-r.r)

pub bounds-sums-r : goal.bounds-sums-r
bounds-sums-r c = omega (arith, inside c.loop-r.r, c.requires.2)

pub returns-then-t-sums : goal.returns-then-t-sums
returns-then-t-sums c = let l = c.loop-r in record { low = l.invariant.0; high = l.invariant.1; before = l.invariant.2; ends = inr c.if-t-sums.true }

pub loop-r-preserved : goal.loop-r-preserved
loop-r-preserved c = let l = c.loop-r in (
  omega (arith, l.invariant.0),
  omega arith,
  λ i low less. ⊎_elim
      (λ e. let same : i ≡ l.r = omega arith in omega (arith, ap (λ k. get_or c.args.sums.now (k % max_distances) 0) same, c.if-t-sums.false))
      (λ g. l.invariant.2 i low (omega arith))
      (eq-or-lt_of_le less),
)
