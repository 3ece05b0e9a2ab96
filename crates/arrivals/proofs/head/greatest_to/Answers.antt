-- `greatest_to` meets its contract. The loop's invariant: of the last steps below j none comes to more than `best`.
use Prim.Native.Nat.{ℕ, suc, ◌+◌, ◌-◌, ◌%◌, ◌≤◌}
use mathlib.Core.Path.{◌≡◌, subst}
use mathlib.Core.List.{List}
use native.Mathlib.Omega.{arith}
use lib.ListN.{length, get_or}
use Rattle.table.specs.Limits.{max_distances}
use Rattle.table.specs.Code.Listed.{distances_from}
use Rattle.arrivals.specs.Arrivals.{δ}
use Rattle.arrivals.specs.Code.Sums.{GreatestTo}
use Rattle.arrivals.proofs.Distances.{δ-far}
use Rattle.arrivals.proofs.Heads.{last_none, last_on}
use Rattle.arrivals.proofs.Lists.{rising, listed-near}
use Rattle.arrivals.proofs.Rows.{lists_length}
use Rattle.arrivals.proofs.head.greatest_to.Goals as goal
use Rattle.arrivals.proofs.head.greatest_to.Goals.{In-loop-j}

abbrev ds : (c : In-loop-j) → List ℕ
ds c = distances_from c.args.s.now c.args.list

in_list : (c : In-loop-j) → c.loop-j.j ≤ length (ds c)
in_list c = omega (arith, c.loop-j-test.true, c.requires.2, lists_length c.requires.0)

-- the sum before a step of j
earlier : (c : In-loop-j) → get_or c.args.sums.now ((c.args.m - c.loop-j.j) % max_distances) 0 ≡ δ (ds c) (suc (c.args.m - c.loop-j.j))
earlier c = c.requires.4.at (c.args.m - c.loop-j.j) (omega (arith, c.loop-j.invariant.0))
    (omega (arith, in_list c, c.loop-j-test.true, c.requires.1, c.requires.0.good.few))

pub loop-j-init : goal.loop-j-init
loop-j-init c = (omega arith, omega arith, last_none _ _)

pub overflow_add-as_listed : goal.overflow_add-as_listed
overflow_add-as_listed c =
    let l = (goal.at.overflow_add-as_listed c).In-loop-j in
    omega (arith, c.as_listed.ensures, listed-near (rising c.requires.0.good) c.loop-j.j, earlier l, δ-far c.requires.0.good (c.args.m - c.loop-j.j), c.requires.3)

pub loop-j-preserved : goal.loop-j-preserved
loop-j-preserved c =
    let l = (goal.at.loop-j-preserved c).In-loop-j in
    let x = get_or c.args.sums.now ((c.args.m - c.loop-j.j) % max_distances) 0 in (
      omega arith,
      omega arith,
      rw (c.max-best.ensures, c.as_listed.ensures)
          (last_on (ds l) c.args.m c.loop-j.j c.loop-j.best x c.loop-j.invariant.0 (in_list l) (omega (arith, c.loop-j-test.true, c.requires.1)) c.loop-j.invariant.2 (earlier l)),
    )

pub returns : goal.returns
returns c = let d = distances_from c.args.s.now c.args.list in
    let e : c.loop-j.j ≡ c.args.most + 1 = omega (arith, c.loop-j.invariant.1) in
    subst (λ j. GreatestTo d c.args.m j c.loop-j.best) e c.loop-j.invariant.2
