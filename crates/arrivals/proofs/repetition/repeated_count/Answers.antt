-- `repeated_count` meets its contract: its whole lists and its remainder are those of the count.
use Prim.Native.Nat.{ℕ, ◌+◌, ◌*◌, ◌-◌, ◌/◌, ◌≤◌, ◌<◌}
use mathlib.Core.Path.{◌≡◌, ap, ap₂, sym, ◌∙◌}
use mathlib.Core.List.{List}
use native.Mathlib.Omega.{arith}
use lib.ListN.{length}
use Rattle.table.specs.Limits.{max_distances}
use Rattle.table.specs.Code.Good.{GoodDistances}
use Rattle.table.specs.Code.Listed.{distances_from}
use Rattle.arrivals.specs.Arrivals.{as_listed, repeated, count_by}
use Rattle.arrivals.specs.Code.WithinList.{within_list}
use Rattle.arrivals.proofs.Lists.{last-above}
use Rattle.arrivals.proofs.Rules.{count-near}
use Rattle.arrivals.proofs.Repeating.{repeated-lawful}
use Rattle.arrivals.proofs.Remainders.{lists-below, count-whole}
use Rattle.arrivals.proofs.Rows.{lists_length, lists-inside}
use Rattle.arrivals.proofs.repetition.repeated_count.Goals as goal
use Rattle.arrivals.proofs.repetition.repeated_count.Goals.{After-listed_from-listed, Start}

-- the chain's distances
abbrev ds : (c : Start) → List ℕ
ds c = distances_from c.args.s.now c.args.list

-- no count is beyond what fits
near : (c : Start) → count_by repeated (ds c) c.args.t ≤ max_distances * c.args.t
near c = count-near (repeated-lawful c.requires.0.good) c.requires.0.good.few c.args.t

-- what is read of the list, whose last distance goes so often into t - 1
module _ {ds : List ℕ} (good : GoodDistances ds) {t listed last : ℕ} (some : 0 < t) (long : listed ≡ length ds) (read : last ≡ as_listed ds listed) where
  last-is : last ≡ as_listed ds (length ds)
  last-is = read ∙ ap (as_listed ds) long

  activations : (t - 1) / last * listed ≡ (t - 1) / as_listed ds (length ds) * length ds
  activations = ap₂ (λ p l. (t - 1) / p * l) last-is long

  ticks : (t - 1) / last * last ≡ (t - 1) / as_listed ds (length ds) * as_listed ds (length ds)
  ticks = ap (λ p. (t - 1) / p * p) last-is

  ticks-below : (t - 1) / last * last < t
  ticks-below = omega (arith, ticks, lists-below good t some)

  -- the count in the code's shape
  all : {within n : ℕ} → n ≡ length ds → within ≡ within_list ds (t - (t - 1) / last * last) n → (t - 1) / last * listed + within ≡ count_by repeated ds t
  all whole within = ap₂ (λ x y. x + y) activations (within ∙ ap₂ (λ w l. within_list ds (t - w) l) ticks whole) ∙ sym (count-whole good t some)

listed-is : (c : After-listed_from-listed) → c.listed_from-listed.result ≡ length (distances_from c.args.s.now c.args.list)
listed-is c = c.listed_from-listed.ensures.0 ∙ sym (lists_length c.requires.0)

pub listed_from-listed-requires : goal.listed_from-listed-requires
listed_from-listed-requires c = lists-inside c.requires.0

pub as_listed-last-requires : goal.as_listed-last-requires
as_listed-last-requires c = (c.requires.0, omega (arith, c.listed_from-listed.ensures.0))

pub overflow_sub-lists : goal.overflow_sub-lists
overflow_sub-lists c = omega (arith, c.requires.1)

-- the remainder is at least 1
pub within_list-requires : goal.within_list-requires
within_list-requires c =
    let l = (goal.at.within_list-requires c).After-listed_from-listed in
    (c.requires.0, omega (arith, ticks-below c.requires.0.good c.requires.1 (listed-is l) c.as_listed-last.ensures))

pub nonzero_div-lists : goal.nonzero_div-lists
nonzero_div-lists c =
    let l = (goal.at.nonzero_div-lists c).After-listed_from-listed in
    omega (arith, last-is c.requires.0.good c.requires.1 (listed-is l) c.as_listed-last.ensures, last-above c.requires.0.good)

pub overflow_mul-result : goal.overflow_mul-result
overflow_mul-result c =
    let l = (goal.at.overflow_mul-result c).After-listed_from-listed in
    let part = activations c.requires.0.good c.requires.1 (listed-is l) c.as_listed-last.ensures in
    omega (arith, part, count-whole c.requires.0.good c.args.t c.requires.1, near (goal.at.overflow_mul-result c).Start, c.requires.2)

pub overflow_mul-lists : goal.overflow_mul-lists
overflow_mul-lists c =
    let l = (goal.at.overflow_mul-lists c).After-listed_from-listed in
    omega (arith, ticks-below c.requires.0.good c.requires.1 (listed-is l) c.as_listed-last.ensures, c.requires.2)

pub overflow_sub-t : goal.overflow_sub-t
overflow_sub-t c =
    let l = (goal.at.overflow_sub-t c).After-listed_from-listed in
    omega (arith, ticks-below c.requires.0.good c.requires.1 (listed-is l) c.as_listed-last.ensures)

pub overflow_add-result : goal.overflow_add-result
overflow_add-result c =
    let l = (goal.at.overflow_add-result c).After-listed_from-listed in
    let counted = all c.requires.0.good c.requires.1 (listed-is l) c.as_listed-last.ensures (sym (lists_length c.requires.0)) c.within_list.ensures in
    omega (arith, counted, near (goal.at.overflow_add-result c).Start, c.requires.2)

pub returns : goal.returns
returns c =
    let l = (goal.at.returns c).After-listed_from-listed in
    omega (arith, all c.requires.0.good c.requires.1 (listed-is l) c.as_listed-last.ensures (sym (lists_length c.requires.0)) c.within_list.ensures)
