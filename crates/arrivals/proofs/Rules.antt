-- Laws of counting by a rule, of which three things are known: η(t) is the greatest n with δ(n) < t, over every n. Assumes nothing.
use Prim.Native.Nat.{ℕ, zero, suc, zero-le, ◌+◌, ◌*◌, ◌-◌, ◌≤◌, ◌<◌}
use mathlib.Core.Path.{◌≡◌}
use mathlib.Core.List.{List}
use mathlib.Core.Logic.{⊎_elim}
use native.Mathlib.Omega.{arith}
use native.Mathlib.Numerals.{add-one}
use native.Mathlib.Nat.{le_refl, le_trans, mul-le-mul_right, sub-add_cancel}
use lib.ListN.{length}
use borrow.Author.Tests.{ltb-true, lt-ltb}
use Rattle.search.specs.Find.{Greatest}
use Rattle.search.proofs.Choice.{lt_or_le}
use Rattle.search.proofs.Find.{last_le, last_hit, last-max}
use Rattle.table.specs.Limits.{max_distances}
use Rattle.table.specs.Code.Good.{GoodDistances}
use Rattle.arrivals.specs.Arrivals.{Rule, count_by}

-- what is known of a rule for a list: δ(1) = 0, it never falls, and it passes every bound: no n above L·t has δ(n) < t
pub record Lawful (rule : Rule) (ds : List ℕ) : Type 0 where
  pub one : rule ds 1 ≡ 0
  pub rises : (m n : ℕ) → m ≤ n → rule ds m ≤ rule ds n
  pub reach : (n t : ℕ) → rule ds n < t → n ≤ length ds * t

module _ {rule : Rule} {ds : List ℕ} (law : Lawful rule ds) where
  -- activation n + 1 is counted exactly where δ(n + 1) < t
  pub count-within : (n t : ℕ) → n < count_by rule ds t → rule ds (n + 1) < t
  unfolding count_by
  count-within n t h =
      let k : ℕ = count_by rule ds t - 1 in
      let e : count_by rule ds t ≡ suc k = omega arith in
      let hit : rule ds (suc k) < t = ltb-true _ _ (last_hit _ (length ds * t) k e) in
      omega (arith, law.rises (n + 1) (suc k) (omega arith))

  pub count-counts : (n t : ℕ) → rule ds (n + 1) < t → n < count_by rule ds t
  unfolding count_by
  count-counts n t h = last-max _ (length ds * t) n (omega (arith, law.reach (n + 1) t h)) (lt-ltb _ _ (rw add-one at h))

  pub count-stops : (n t : ℕ) → t ≤ rule ds (n + 1) → count_by rule ds t ≤ n
  count-stops n t h = ⊎_elim (λ g. absurd (omega (arith, count-within n t g))) (λ g. g) (lt_or_le n (count_by rule ds t))

  -- η(t) is at least 1 for t > 0, and then it is the greatest n with δ(n) < t
  pub count-some : (t : ℕ) → 0 < t → 1 ≤ count_by rule ds t
  count-some t pos = count-counts 0 t (omega (arith, law.one))

  pub count-greatest : (t : ℕ) → 0 < t → Greatest (λ n. rule ds n < t) (count_by rule ds t)
  count-greatest t pos = record { holds = holds; above = above }
    where
      holds : rule ds (count_by rule ds t) < t
      holds = rw (sub-add_cancel (count-some t pos)) at (count-within (count_by rule ds t - 1) t (omega (arith, count-some t pos)))

      above : (n : ℕ) → rule ds n < t → n ≤ count_by rule ds t
      above zero h = zero-le
      above (suc n) h = count-counts n t (rw add-one h)

  -- η(t) is at most L·t, so η(0) = 0
  pub count-reach : (t : ℕ) → count_by rule ds t ≤ length ds * t
  unfolding count_by
  count-reach t = last_le _ _

  pub count-near : length ds ≤ max_distances → (t : ℕ) → count_by rule ds t ≤ max_distances * t
  count-near few t = le_trans (count-reach t) (mul-le-mul_right t few)

  pub count-zero : count_by rule ds 0 ≡ 0
  count-zero = omega (arith, count-reach 0)

-- in no more time no more are counted, by the one rule and list than by the other
abbrev pub Fewer : Rule → List ℕ → Rule → List ℕ → Type 0
Fewer rule ds other es = (s t : ℕ) → s ≤ t → count_by rule ds s ≤ count_by other es t

-- so it is where distances are nowhere shorter
pub count-fewer : {rule other : Rule} {ds es : List ℕ} → Lawful rule ds → Lawful other es → ((n : ℕ) → other es n ≤ rule ds n) → Fewer rule ds other es
count-fewer {rule} {other} {ds} {es} law laws longer s t h =
    ⊎_elim (λ g. absurd (omega (arith, count-counts laws (count_by other es t) t (omega (arith, count-within law (count_by other es t) s g, longer (count_by other es t + 1), h))))) (λ g. g)
    (lt_or_le (count_by other es t) (count_by rule ds s))

-- so it never falls with the time
pub count-mono : {rule : Rule} {ds : List ℕ} → Lawful rule ds → (s t : ℕ) → s ≤ t → count_by rule ds s ≤ count_by rule ds t
count-mono {rule} {ds} law = count-fewer law law (λ n. le_refl (rule ds n))

-- a rule is lawful for the distances of every accepted table
pub record GoodRule (rule : Rule) : Type 0 where
  pub law : {ds : List ℕ} → GoodDistances ds → Lawful rule ds

-- two such rules, and by the first no distance is shorter
pub record Slower (rule other : Rule) : Type 0 where
  pub first : GoodRule rule
  pub second : GoodRule other
  pub longer : {ds : List ℕ} → GoodDistances ds → (n : ℕ) → other ds n ≤ rule ds n

pub slower_same : {rule : Rule} → GoodRule rule → Slower rule rule
slower_same good = record { first = good; second = good; longer = λ g n. le_refl _ }

pub slower_fewer : {rule other : Rule} → Slower rule other → {ds : List ℕ} → GoodDistances ds → Fewer rule ds other ds
slower_fewer slower g = count-fewer (slower.first.law g) (slower.second.law g) (slower.longer g)
