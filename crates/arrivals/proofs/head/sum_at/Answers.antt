-- `sum_at` meets its contract: no sum of so few steps is as large as what is asked for, so the last put is that of m.
use Prim.Native.Nat.{suc, ◌+◌}
use mathlib.Core.Path.{◌≡◌, refl, ap, ◌∙◌}
use native.Mathlib.Omega.{arith}
use Rattle.table.specs.Code.Listed.{distances_from}
use Rattle.arrivals.specs.Arrivals.{δ}
use Rattle.arrivals.proofs.Heads.{sums_none, sums-here, first-all}
use Rattle.arrivals.proofs.head.sum_at.Goals as goal

pub first_sum-at-requires : goal.first_sum-at-requires
first_sum-at-requires c = (c.requires.0, c.requires.1, sums_none _ _ refl refl)

pub returns : goal.returns
returns c = let ds = distances_from c.args.s.now c.args.list in
    let all : c.first_sum-at.result ≡ c.args.m = first-all c.requires.0.good _ c.args.m c.first_sum-at.result c.requires.1 (omega arith) c.first_sum-at.ensures.0 in
    let e : suc c.first_sum-at.result ≡ c.args.m + 1 = omega (arith, all) in
    sums-here ds c.first_sum-at.result c.first_sum-at.new.sums c.first_sum-at.ensures.1 ∙ ap (δ ds) e
