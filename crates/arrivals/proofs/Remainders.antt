-- Counting by 01's rule, by whole lists and a remainder: what lies within a part of one list, distance after distance, and after whole ones. Assumes nothing.
use Prim.Native.Nat.{ℕ, suc, ◌+◌, ◌*◌, ◌/◌, ◌-◌, ◌≤◌, ◌<◌}
use mathlib.Core.Path.{◌≡◌, ap, ◌∙◌}
use mathlib.Core.Bool.{Bool}
use mathlib.Core.List.{List}
use mathlib.Core.Logic.{⊎_elim}
use native.Mathlib.Omega.{arith}
use native.Mathlib.Numerals.{add-one}
use native.Mathlib.Nat.{eq-or-lt_of_le, div-add-mod', mod-lt}
use lib.ListN.{length}
use lib.Dec.{ltb}
use borrow.Author.Tests.{ltb-true, lt-ltb}
use Rattle.search.specs.Choice.{◌when◌else◌}
use Rattle.search.specs.Find.{last}
use Rattle.search.proofs.Choice.{when_cases, when_yes, when_no, lt_or_le}
use Rattle.search.proofs.Find.{last_le, last_hit, last-max}
use Rattle.arrivals.specs.Arrivals.{as_listed, repeated, count_by}
use Rattle.arrivals.specs.Code.WithinList.{within_list}
use Rattle.table.specs.Code.Good.{GoodDistances}
use Rattle.arrivals.proofs.Lists.{rising, last-above, listed-rises, repeated-after}
use Rattle.arrivals.proofs.Rules.{count-counts, count-stops}
use Rattle.arrivals.proofs.Repeating.{repeated-lawful}

-- no more than are looked at
pub within_le : (ds : List ℕ) (x j : ℕ) → within_list ds x j ≤ j
unfolding within_list
within_le ds x j = last_le _ j

module _ {ds : List ℕ} (good : GoodDistances ds) {x : ℕ} (some : 0 < x) where
  -- a test: whether activation m + 1 of the list lies within x
  abbrev lies : ℕ → Bool
  lies m = ltb (as_listed ds m) x

  -- the first lies within every x
  within-some : (j : ℕ) → 0 < j → 0 < within_list ds x j
  unfolding within_list as_listed
  within-some j h = last-max lies j 0 h (lt-ltb 0 x some)

  pub within_first : within_list ds x 1 ≡ 1
  within_first = omega (arith, within_le ds x 1, within-some 1 (omega arith))

  -- where one does, all before it do
  within_all : (j : ℕ) → 0 < j → j < length ds → as_listed ds j < x → within_list ds x j ≡ j
  unfolding within_list
  within_all j h g e =
      let m : ℕ = j - 1 in
      let f : suc m ≡ j = omega arith in
      let r : as_listed ds m ≤ as_listed ds j = rw f at (listed-rises (rising good) m (omega arith)) in
      let b : as_listed ds m < x = omega (arith, r, e) in
      omega (arith, last_le lies j, last-max lies j m (omega arith) (lt-ltb _ _ b))

  pub within_on : (j : ℕ) → 0 < j → j < length ds → within_list ds x (j + 1) ≡ within_list ds x j + (1 when lies j else 0)
  unfolding within_list last
  within_on j h g =
      rw add-one
      (when_cases (λ r. r ≡ within_list ds x j + (1 when lies j else 0)) (lies j)
      (λ e. omega (arith, when_yes {A = ℕ} 1 0 e, within_all j h g (ltb-true _ _ e)))
      (λ e. omega (arith, when_no {A = ℕ} 1 0 e)))

  -- after i whole lists there are i times as many activations, and those within the next
  module _ (i : ℕ) (short : x ≤ as_listed ds (length ds)) where
    pub count-lists : count_by repeated ds (i * as_listed ds (length ds) + x) ≡ i * length ds + within_list ds x (length ds)
    unfolding within_list as_listed
    count-lists = omega (arith, none_more, all_there)
      where
        n : ℕ
        n = within_list ds x (length ds)

        t : ℕ
        t = i * as_listed ds (length ds) + x

        few : n ≤ length ds
        few = within_le ds x (length ds)

        some-there : 0 < n
        some-there = within-some (length ds) good.some

        beyond : x ≤ as_listed ds n
        beyond =
            ⊎_elim (λ e. omega (arith, short, ap (as_listed ds) e))
            (λ g. ⊎_elim (λ b. absurd (omega (arith, last-max lies (length ds) n g (lt-ltb _ _ b)))) (λ b. b) (lt_or_le (as_listed ds n) x))
            (eq-or-lt_of_le few)

        none_more : count_by repeated ds t ≤ i * length ds + n
        none_more = count-stops (repeated-lawful good) (i * length ds + n) t (omega (arith, repeated-after (rising good) i n few, beyond))

        last_in : as_listed ds (n - 1) < x
        last_in = ltb-true _ _ (last_hit lies (length ds) (n - 1) (omega (arith, some-there)))

        all_there : i * length ds + n ≤ count_by repeated ds t
        all_there = omega (arith, some-there, count-counts (repeated-lawful good) (i * length ds + (n - 1)) t (omega (arith, repeated-after (rising good) i (n - 1) (omega (arith, few)), last_in)))

-- t is so many whole lists and a remainder, of at least 1 and at most the last distance
module _ {ds : List ℕ} (good : GoodDistances ds) (t : ℕ) (some : 0 < t) where
  abbrev ticks : ℕ
  ticks = (t - 1) / as_listed ds (length ds) * as_listed ds (length ds)

  pub lists-below : ticks < t
  lists-below = omega (arith, div-add-mod' (t - 1) (as_listed ds (length ds)))

  pub rest-short : t - ticks ≤ as_listed ds (length ds)
  rest-short = omega (arith, div-add-mod' (t - 1) (as_listed ds (length ds)), mod-lt (t - 1) (last-above good))

  pub count-whole : count_by repeated ds t ≡ (t - 1) / as_listed ds (length ds) * length ds + within_list ds (t - ticks) (length ds)
  count-whole = ap (count_by repeated ds) (omega (arith, lists-below)) ∙ count-lists good (omega (arith, lists-below)) ((t - 1) / as_listed ds (length ds)) rest-short
