-- `eta_by_one` meets its contract: the two distances that come next tell whether η(t) is `from`, or one more.
use Prim.Native.Nat.{ℕ, ◌+◌, ◌*◌, ◌/◌, ◌-◌, ◌≤◌, ◌<◌}
use mathlib.Core.Path.{◌≡◌, ap, sym, ◌∙◌}
use mathlib.Core.List.{List}
use native.Mathlib.Omega.{arith}
use native.Mathlib.Nat.{div-add-mod', mod-lt}
use lib.ListN.{length}
use Rattle.table.specs.Code.Good.{GoodDistances}
use Rattle.table.specs.Code.Listed.{distances_from}
use Rattle.arrivals.specs.Arrivals.{as_listed, δ, η}
use Rattle.arrivals.specs.Code.Bounds.{farthest}
use Rattle.arrivals.proofs.Lists.{last-above}
use Rattle.arrivals.proofs.Distances.{δ-near}
use Rattle.arrivals.proofs.Counts.{η-counts, η-stops, η-farthest}
use Rattle.arrivals.proofs.Heads.{δ-single}
use Rattle.arrivals.proofs.Rows.{lists_length}
use Rattle.arrivals.proofs.eta_by_one.Goals as goal
use Rattle.arrivals.proofs.eta_by_one.Goals.{Start}

-- a list of one distance d
module _ {ds : List ℕ} (good : GoodDistances ds) (single : length ds ≡ 1) {d : ℕ} (read : d ≡ as_listed ds 1) where
  -- the distance of so many steps
  steps : (m : ℕ) → m * d ≡ δ ds (m + 1)
  steps m = ap (λ x. m * x) read ∙ sym (δ-single good single m)

  some : 0 < d
  some = omega (arith, read, ap (as_listed ds) single, last-above good)

  -- where t lies past the next, one more is counted
  counts : (m t : ℕ) → m * d < t → m < η ds t
  counts m t h = η-counts good m t (omega (arith, steps m, h))

  stops : (m t : ℕ) → t ≤ m * d → η ds t ≤ m
  stops m t h = η-stops good m t (omega (arith, steps m, h))

  -- the quotient is one less than the count
  quotient : (t : ℕ) → 0 < t → (t - 1) / d + 1 ≡ η ds t
  quotient t h =
      let q : ℕ = (t - 1) / d in
      let low = div-add-mod' (t - 1) d in
      omega (arith, counts q t (omega (arith, low, h)), stops (q + 1) t (omega (arith, low, mod-lt (t - 1) some, h)))

abbrev ds : (c : Start) → List ℕ
ds c = distances_from c.args.s.now c.args.list

single : (c : Start) → length (ds c) ≡ 1
single c = lists_length c.requires.0 ∙ c.requires.1

near : (c : Start) → c.args.from < farthest
near c = omega (arith, c.requires.3, η-farthest c.requires.0.good c.args.t c.requires.2)

pub overflow_mul-next : goal.overflow_mul-next
overflow_mul-next c =
    let b = (goal.at.overflow_mul-next c).Start in
    omega (arith, steps c.requires.0.good (single b) c.as_listed-distance.ensures c.args.from, δ-near c.requires.0.good (c.args.from + 1), near b)

pub returns-then-t-next : goal.returns-then-t-next
returns-then-t-next c =
    let b = (goal.at.returns-then-t-next c).Start in
    omega (arith, c.requires.3, stops c.requires.0.good (single b) c.as_listed-distance.ensures c.args.from c.args.t (omega (arith, c.if-t-next.true)))

pub overflow_add-next : goal.overflow_add-next
overflow_add-next c =
    let b = (goal.at.overflow_add-next c).Start in
    let next = steps c.requires.0.good (single b) c.as_listed-distance.ensures (c.args.from + 1) in
    omega (arith, next, δ-near c.requires.0.good (c.args.from + 1 + 1), near b)

pub overflow_add-result : goal.overflow_add-result
overflow_add-result c = omega (arith, near (goal.at.overflow_add-result c).Start)

pub returns-then-t-next-2 : goal.returns-then-t-next-2
returns-then-t-next-2 c =
    let b = (goal.at.returns-then-t-next-2 c).Start in
    let more = counts c.requires.0.good (single b) c.as_listed-distance.ensures c.args.from c.args.t (omega (arith, c.if-t-next.false)) in
    let most = stops c.requires.0.good (single b) c.as_listed-distance.ensures (c.args.from + 1) c.args.t (omega (arith, c.if-t-next-2.true)) in
    omega (arith, more, most)

pub overflow_sub-result : goal.overflow_sub-result
overflow_sub-result c = omega (arith, c.if-t-next-2.false)

pub nonzero_div-result : goal.nonzero_div-result
nonzero_div-result c = some c.requires.0.good (single (goal.at.nonzero_div-result c).Start) c.as_listed-distance.ensures

pub overflow_add-result-2 : goal.overflow_add-result-2
overflow_add-result-2 c =
    let b = (goal.at.overflow_add-result-2 c).Start in
    let all = quotient c.requires.0.good (single b) c.as_listed-distance.ensures c.args.t (omega (arith, c.if-t-next-2.false)) in
    omega (arith, all, η-farthest c.requires.0.good c.args.t c.requires.2)

pub returns : goal.returns
returns c = quotient c.requires.0.good (single (goal.at.returns c).Start) c.as_listed-distance.ensures c.args.t (omega (arith, c.if-t-next-2.false))
