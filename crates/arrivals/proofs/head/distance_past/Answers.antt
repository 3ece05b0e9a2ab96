-- `distance_past` meets its contract: its whole best steps and its rest are those of δ.
use Prim.Native.Nat.{ℕ, max, ◌+◌, ◌*◌, ◌/◌, ◌-◌, ◌≤◌}
use mathlib.Core.Path.{◌≡◌, refl, ap, ap₂, sym, ◌∙◌}
use mathlib.Core.List.{List}
use native.Mathlib.Omega.{arith}
use lib.ListN.{length}
use Rattle.table.specs.Limits.{max_distance}
use Rattle.table.specs.Code.Good.{GoodDistances}
use Rattle.table.specs.Code.Listed.{distances_from}
use Rattle.arrivals.specs.Arrivals.{as_listed, δ, Best}
use Rattle.arrivals.specs.Code.Bounds.{farthest}
use Rattle.arrivals.specs.Code.Sums.{head_of}
use Rattle.arrivals.proofs.Distances.{δ-near}
use Rattle.arrivals.proofs.Heads.{head, head_few, whole-within, rest-few, rest-long, δ-whole}
use Rattle.arrivals.proofs.Rows.{lists_length}
use Rattle.arrivals.proofs.head.distance_past.Goals as goal
use Rattle.arrivals.proofs.head.distance_past.Goals.{After-head_of-head, After-saturating_sub, Start}

-- the whole best steps as the code has them: as few as lead back into the head
module _ {ds : List ℕ} (good : GoodDistances ds) {s : ℕ} (best : Best ds s) {m h past : ℕ} (long : length ds ≤ m)
    (is : h ≡ head good best) (beyond : past ≡ m + s - (h + 1)) where
  whole_is : past / s ≡ (m + s - (head good best + 1)) / s
  whole_is = ap (λ n. n / s) (omega (arith, is, beyond))

  within : past / s * s ≤ m
  within = whole-within good best m (past / s) long whole_is

  parts : δ ds (m + 1) ≡ past / s * as_listed ds s + δ ds (m - past / s * s + 1)
  parts = δ-whole good best m (past / s) long whole_is

  -- what was read of the best step, and what is left
  all : {d left : ℕ} → d ≡ as_listed ds s → left ≡ δ ds (m - past / s * s + 1) → past / s * d + left ≡ δ ds (m + 1)
  all read left = ap₂ (λ x y. past / s * x + y) read left ∙ sym parts

abbrev ds : (c : Start) → List ℕ
ds c = distances_from c.args.s.now c.args.list

long : (c : Start) → length (ds c) ≤ c.args.m
long c = omega (arith, c.requires.1, lists_length c.requires.0)

near : (c : Start) → δ (ds c) (c.args.m + 1) ≤ farthest * max_distance
near c = omega (arith, δ-near c.requires.0.good (c.args.m + 1), c.requires.2)

best : (c : After-head_of-head) → Best (distances_from c.args.s.now c.args.list) c.best_step-step.result
best c = c.best_step-step.ensures

head-is : (c : After-head_of-head) → c.head_of-head.result ≡ head c.requires.0.good (best c)
head-is c = c.head_of-head.ensures ∙ ap (max (head_of (distances_from c.args.s.now c.args.list) c.best_step-step.result)) (sym (lists_length c.requires.0))

beyond : (c : After-saturating_sub) → c.saturating_sub.result ≡ c.args.m + c.best_step-step.result - (c.head_of-head.result + 1)
beyond c = omega (arith, c.saturating_sub.ensures)

pub head_of-head-requires : goal.head_of-head-requires
head_of-head-requires c = (c.requires.0, omega (arith, c.best_step-step.ensures.high, lists_length c.requires.0))

pub overflow_add-m : goal.overflow_add-m
overflow_add-m c = omega (arith, c.requires.2, c.best_step-step.ensures.high, c.requires.0.good.few)

pub overflow_add-head : goal.overflow_add-head
overflow_add-head c = let b = (goal.at.overflow_add-head c).After-head_of-head in omega (arith, head-is b, head_few c.requires.0.good (best b))

pub overflow_mul-rest : goal.overflow_mul-rest
overflow_mul-rest c =
    let b = (goal.at.overflow_mul-rest c).After-head_of-head in
    omega (arith, within c.requires.0.good (best b) (long (goal.at.overflow_mul-rest c).Start) (head-is b) (beyond (goal.at.overflow_mul-rest c).After-saturating_sub), c.requires.2)

pub overflow_sub-rest : goal.overflow_sub-rest
overflow_sub-rest c =
    let b = (goal.at.overflow_sub-rest c).After-head_of-head in
    within c.requires.0.good (best b) (long (goal.at.overflow_sub-rest c).Start) (head-is b) (beyond (goal.at.overflow_sub-rest c).After-saturating_sub)

pub as_listed-requires : goal.as_listed-requires
as_listed-requires c = (c.requires.0, omega (arith, c.best_step-step.ensures.high, lists_length c.requires.0))

pub overflow_mul-result : goal.overflow_mul-result
overflow_mul-result c =
    let b = (goal.at.overflow_mul-result c).After-head_of-head in
    let l = (goal.at.overflow_mul-result c).Start in
    omega (arith, all c.requires.0.good (best b) (long l) (head-is b) (beyond (goal.at.overflow_mul-result c).After-saturating_sub) c.as_listed.ensures refl, near l)

pub sum_past-requires : goal.sum_past-requires
sum_past-requires c =
    let b = (goal.at.sum_past-requires c).After-head_of-head in
    let l = long (goal.at.sum_past-requires c).Start in
    let good = c.requires.0.good in
    let whole : ℕ = c.saturating_sub.result / c.best_step-step.result in
    let is = whole_is good (best b) l (head-is b) (beyond (goal.at.sum_past-requires c).After-saturating_sub) in
    (c.requires.0, omega (arith, rest-long good (best b) c.args.m whole l is, lists_length c.requires.0), rest-few good (best b) c.args.m whole l is)

pub overflow_add-result : goal.overflow_add-result
overflow_add-result c =
    let b = (goal.at.overflow_add-result c).After-head_of-head in
    let l = (goal.at.overflow_add-result c).Start in
    omega (arith, all c.requires.0.good (best b) (long l) (head-is b) (beyond (goal.at.overflow_add-result c).After-saturating_sub) c.as_listed.ensures c.sum_past.ensures, near l)

pub returns : goal.returns
returns c =
    let b = (goal.at.returns c).After-head_of-head in
    all c.requires.0.good (best b) (long (goal.at.returns c).Start) (head-is b) (beyond (goal.at.returns c).After-saturating_sub) c.as_listed.ensures c.sum_past.ensures
