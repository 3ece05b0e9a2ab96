-- `count_past` meets its contract. The loop's invariant: the sums up to m are put, and that before m, past the first list, lies below t.
-- Past the head the whole best steps and the remainder are those of η.
use Prim.Native.Nat.{ℕ, suc, max, ◌+◌, ◌*◌, ◌/◌, ◌-◌, ◌%◌, ◌<◌, ◌≤◌}
use mathlib.Core.Path.{◌≡◌, refl, ap, sym, subst, ◌∙◌}
use mathlib.Core.List.{List}
use mathlib.Core.Logic.{⊎_elim}
use native.Mathlib.Omega.{arith}
use native.Mathlib.Nat.{eq-or-lt_of_le}
use lib.ListN.{length, get_or}
use Rattle.table.specs.Limits.{max_distances}
use Rattle.table.specs.Code.Good.{GoodDistances}
use Rattle.table.specs.Code.Listed.{listed_from, distances_from}
use Rattle.arrivals.specs.Arrivals.{as_listed, δ, Best, η}
use Rattle.arrivals.specs.Code.Sums.{head_of, SumsAt, FirstFrom}
use Rattle.arrivals.proofs.Lists.{rising, listed-near}
use Rattle.arrivals.proofs.Counts.{η-near, η-counts, η-stops}
use Rattle.arrivals.proofs.Heads.{sums_none, sums-here, best-some, head, head_few, spans-within, η-past}
use Rattle.arrivals.proofs.Rows.{lists_length, lists-inside}
use Rattle.arrivals.proofs.head.count_past.Goals as goal
use Rattle.arrivals.proofs.head.count_past.Goals.{After-head_of-head, After-loop-m, At-loop-m}

abbrev ds : (c : After-head_of-head) → List ℕ
ds c = distances_from c.args.s.now c.args.list

abbrev step : (c : After-head_of-head) → ℕ
step c = c.best_step-step.result

best : (c : After-head_of-head) → Best (ds c) (step c)
best c = c.best_step-step.ensures

long : (c : After-head_of-head) → length (ds c) ≡ listed_from c.args.s.now c.args.list
long c = lists_length c.requires.0

head-is : (c : After-head_of-head) → c.head_of-head.result ≡ head c.requires.0.good (best c)
head-is c = c.head_of-head.ensures ∙ ap (max (head_of (ds c) (step c))) (sym (long c))

few : (c : After-head_of-head) → c.head_of-head.result + step c ≤ max_distances * max_distances
few c = omega (arith, head-is c, head_few c.requires.0.good (best c))

-- the sum of m
sum_is : (c : At-loop-m) → get_or c.loop-m.sums (c.loop-m.m % max_distances) 0 ≡ δ (distances_from c.args.s.now c.args.list) (suc c.loop-m.m)
sum_is c = sums-here _ c.loop-m.m c.loop-m.sums c.loop-m.invariant.2

-- what is known where the loop ends: the sums up to one past the head h are put, and that of h lies below t
record Ended (ds : List ℕ) (s t h : ℕ) (sums : List ℕ) : Type 0 where
  good : GoodDistances ds
  best : Best ds s
  is : h ≡ head good best
  put : SumsAt ds (h + 1) sums
  less : δ ds (h + 1) < t

ended : (c : After-loop-m) → Ended (distances_from c.args.s.now c.args.list) c.best_step-step.result c.args.t c.head_of-head.result c.loop-m.sums
ended c =
    let d = distances_from c.args.s.now c.args.list in
    let all : length d ≡ listed_from c.args.s.now c.args.list = lists_length c.requires.0 in
    let is : c.head_of-head.result ≡ head c.requires.0.good c.best_step-step.ensures =
    c.head_of-head.ensures ∙ ap (max (head_of d c.best_step-step.result)) (sym all) in
    let end : c.loop-m.m ≡ c.head_of-head.result + 1 = omega (arith, c.loop-m.invariant.1, c.loop-m-test.false) in
    record {
      good = c.requires.0.good;
      best = c.best_step-step.ensures;
      is = is;
      put = subst (λ n. SumsAt d n c.loop-m.sums) end c.loop-m.invariant.2;
      less = subst (λ n. δ d n < c.args.t) end (c.loop-m.invariant.3 (omega (arith, end, is, all)));
    }

-- the whole best steps past the head, d each
module _ {ds : List ℕ} {s t h : ℕ} {sums : List ℕ} (e : Ended ds s t h sums) {d past : ℕ} (distance : d ≡ as_listed ds s)
    (is : past ≡ t + d - 1 - get_or sums ((h + 1) % max_distances) 0) where
  abbrev sum : ℕ
  sum = get_or sums ((h + 1) % max_distances) 0

  reached : sum ≡ δ ds (suc (head e.good e.best + 1))
  reached = sums-here ds (h + 1) sums e.put ∙ ap (λ n. δ ds (suc (n + 1))) e.is

  past_head : δ ds (suc (head e.good e.best)) < t
  past_head = let next : h + 1 ≡ suc (head e.good e.best) = omega (arith, e.is) in omega (arith, e.less, ap (δ ds) next)

  whole_is : past / d ≡ (t + as_listed ds s - 1 - sum) / as_listed ds s
  whole_is = ap (λ n. n / d) is ∙ ap (λ x. (t + x - 1 - sum) / x) distance

  spans : past / d * d ≡ past / d * as_listed ds s
  spans = ap (λ x. past / d * x) distance

  within : past / d * d ≤ t
  within = omega (arith, spans, spans-within e.good e.best t sum (past / d) reached past_head whole_is)

  counted : (r : ℕ) → FirstFrom sums (h + 1 + 1 - s) (h + 1) (t - past / d * d) r → η ds t ≡ past / d * s + r
  counted r f = η-past e.good e.best t sum (past / d) reached past_head whole_is sums r
      (subst (λ n. SumsAt ds (n + 1) sums) e.is e.put)
      (subst (λ n. FirstFrom sums (n + 1 + 1 - s) (n + 1) (t - past / d * as_listed ds s) r) e.is
      (subst (λ x. FirstFrom sums (h + 1 + 1 - s) (h + 1) (t - x) r) spans f))

pub best_step-step-requires : goal.best_step-step-requires
best_step-step-requires c = c.requires.0

pub head_of-head-requires : goal.head_of-head-requires
head_of-head-requires c = (c.requires.0, omega (arith, c.best_step-step.ensures.high, lists_length c.requires.0))

pub find_useful-n-requires : goal.find_useful-n-requires
find_useful-n-requires c = (c.requires.0, sums_none _ _ refl refl, refl)

pub listed_from-m-requires : goal.listed_from-m-requires
listed_from-m-requires c = lists-inside c.requires.0

pub overflow_add-end : goal.overflow_add-end
overflow_add-end c = omega (arith, few (goal.at.overflow_add-end c).After-head_of-head)

pub loop-m-init : goal.loop-m-init
loop-m-init c = let d = distances_from c.args.s.now c.args.list in (
  omega (arith, c.listed_from-m.ensures.0),
  omega (arith, c.listed_from-m.ensures.0, c.head_of-head.ensures),
  subst (λ n. SumsAt d n c.find_useful-n.new.sums) (sym c.listed_from-m.ensures.0) c.find_useful-n.ensures.0,
  λ h. absurd (omega (arith, h, c.listed_from-m.ensures.0)),
)

-- what is counted up to m lies below t
pub returns-then-t-sums : goal.returns-then-t-sums
returns-then-t-sums c = let g = c.requires.0.good in
    let d = distances_from c.args.s.now c.args.list in
    let m = c.loop-m.m in
    let next : suc m ≡ m + 1 = omega arith in
    let stops : η d c.args.t ≤ m =
    η-stops g m c.args.t (omega (arith, c.if-t-sums.true, sum_is (goal.at.returns-then-t-sums c).At-loop-m, ap (δ d) next)) in
    ⊎_elim
    (λ first. omega (arith, stops, first, c.requires.1))
    (λ later.
    let last : m ≡ m - 1 + 1 = omega (arith, later) in
    omega (arith, stops, η-counts g (m - 1) c.args.t (omega (arith, c.loop-m.invariant.3 later, ap (δ d) last)), later))
    (eq-or-lt_of_le c.loop-m.invariant.0)

pub put_by_useful-requires : goal.put_by_useful-requires
put_by_useful-requires c = let same : c.loop-m.m ≡ c.loop-m.m + 1 - 1 = omega arith in
    let b = (goal.at.put_by_useful-requires c).After-head_of-head in (
      c.requires.0,
      omega (arith, c.loop-m.invariant.0),
      omega (arith, few b, (best b).low, c.loop-m-test.true),
      subst (λ n. SumsAt (ds b) n c.loop-m.sums) same c.loop-m.invariant.2,
      c.find_useful-n.ensures.1,
    )

pub loop-m-preserved : goal.loop-m-preserved
loop-m-preserved c = let next : suc c.loop-m.m ≡ c.loop-m.m + 1 = omega arith in (
  omega (arith, c.loop-m.invariant.0),
  omega (arith, c.loop-m-test.true),
  c.put_by_useful.ensures,
  λ h. omega (arith, c.if-t-sums.false, sum_is (goal.at.loop-m-preserved c).At-loop-m, ap (δ (distances_from c.args.s.now c.args.list)) next),
)

pub as_listed-distance-requires : goal.as_listed-distance-requires
as_listed-distance-requires c = (c.requires.0, omega (arith, c.best_step-step.ensures.high, lists_length c.requires.0))

pub overflow_add-t : goal.overflow_add-t
overflow_add-t c = omega (arith, c.requires.2, c.as_listed-distance.ensures, listed-near (rising c.requires.0.good) c.best_step-step.result)

pub overflow_sub-t : goal.overflow_sub-t
overflow_sub-t c = omega (arith, c.as_listed-distance.ensures, best-some c.requires.0.good c.best_step-step.ensures)

pub nonzero_div-whole : goal.nonzero_div-whole
nonzero_div-whole c = omega (arith, c.as_listed-distance.ensures, best-some c.requires.0.good c.best_step-step.ensures)

pub overflow_add-end-2 : goal.overflow_add-end-2
overflow_add-end-2 c = omega (arith, few (goal.at.overflow_add-end-2 c).After-head_of-head)

pub overflow_sub-end : goal.overflow_sub-end
overflow_sub-end c = let b = (goal.at.overflow_sub-end c).After-head_of-head in omega (arith, head-is b, (best b).high)

pub overflow_mul-whole : goal.overflow_mul-whole
overflow_mul-whole c = omega (arith, within (ended (goal.at.overflow_mul-whole c).After-loop-m) c.as_listed-distance.ensures c.saturating_sub.ensures, c.requires.2)

pub overflow_sub-t-2 : goal.overflow_sub-t-2
overflow_sub-t-2 c = within (ended (goal.at.overflow_sub-t-2 c).After-loop-m) c.as_listed-distance.ensures c.saturating_sub.ensures

pub first_from-last-requires : goal.first_from-last-requires
first_from-last-requires c = let b = (goal.at.first_from-last-requires c).After-head_of-head in
    (omega (arith, (best b).low), omega (arith, few b, (best b).low), c.loop-m.invariant.2.size)

pub overflow_mul-result : goal.overflow_mul-result
overflow_mul-result c =
    let all = counted (ended (goal.at.overflow_mul-result c).After-loop-m) c.as_listed-distance.ensures c.saturating_sub.ensures c.first_from-last.result c.first_from-last.ensures in
    omega (arith, all, η-near c.requires.0.good c.args.t, c.requires.2)

pub overflow_add-result : goal.overflow_add-result
overflow_add-result c =
    let all = counted (ended (goal.at.overflow_add-result c).After-loop-m) c.as_listed-distance.ensures c.saturating_sub.ensures c.first_from-last.result c.first_from-last.ensures in
    omega (arith, all, η-near c.requires.0.good c.args.t, c.requires.2)

pub returns : goal.returns
returns c =
    let b = (goal.at.returns c).After-loop-m in
    sym (counted (ended b) c.as_listed-distance.ensures c.saturating_sub.ensures c.first_from-last.result c.first_from-last.ensures)
