-- `best_step` meets its contract. The loop's invariant: `best` is a best step of those below j.
use Prim.Native.Nat.{ℕ, ◌*◌}
use mathlib.Core.Path.{◌≡◌, ap}
use mathlib.Core.List.{List}
use native.Mathlib.Omega.{arith}
use Rattle.table.specs.Code.Listed.{distances_from}
use Rattle.arrivals.specs.Arrivals.{as_listed}
use Rattle.arrivals.proofs.Heads.{best-on, best-all}
use Rattle.arrivals.proofs.Rows.{lists_length, lists-inside}
use Rattle.arrivals.proofs.head.best_step.Goals as goal
use Rattle.arrivals.proofs.head.best_step.Goals.{Start}

abbrev ds : (c : Start) → List ℕ
ds c = distances_from c.args.s.now c.args.list

pub listed_from-listed-requires : goal.listed_from-listed-requires
listed_from-listed-requires c = lists-inside c.requires

pub loop-j-init : goal.loop-j-init
loop-j-init c = (
  record { low = omega arith; high = omega arith; best_of = λ i l h. let e : i ≡ 1 = omega arith in omega (arith, ap (λ k. as_listed (ds (goal.at.loop-j-init c).Start) k * 1) e, ap (λ k. as_listed (ds (goal.at.loop-j-init c).Start) 1 * k) e) },
  omega arith,
  omega (arith, c.listed_from-listed.ensures.0, lists_length c.requires, c.requires.good.some),
)

pub better-best-requires : goal.better-best-requires
better-best-requires c = let b = c.loop-j.invariant.0 in
    (c.requires, b.low, omega (arith, b.high, c.listed_from-listed.ensures.0), omega (arith, c.loop-j.invariant.1), omega (arith, c.listed_from-listed.ensures.0))

pub loop-j-preserved : goal.loop-j-preserved
loop-j-preserved c =
    let b = (goal.at.loop-j-preserved c).Start in
    (best-on (ds b) c.loop-j.j c.loop-j.best c.better-best.result (omega (arith, c.loop-j.invariant.1)) c.loop-j.invariant.0 c.better-best.ensures, omega (arith, c.loop-j.invariant.1), omega arith)

pub returns : goal.returns
returns c =
    let b = (goal.at.returns c).Start in
    best-all (ds b) c.loop-j.j c.loop-j.best (omega (arith, c.listed_from-listed.ensures.0, lists_length c.requires, c.loop-j.invariant.2, c.loop-j-test.false)) c.loop-j.invariant.0
