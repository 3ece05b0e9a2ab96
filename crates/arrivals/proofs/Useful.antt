-- No step but the useful ones is needed for a greatest sum. Assumes nothing.
use Prim.Native.Nat.{ℕ, zero, suc, max, ◌+◌, ◌-◌, ◌≤◌, ◌<◌}
use mathlib.Core.Path.{◌≡◌, ap, sym, subst, ◌∙◌}
use mathlib.Core.List.{List}
use mathlib.Core.Logic.{◌⊎◌, inl, inr, ⊎_elim}
use native.Mathlib.Omega.{arith}
use native.Mathlib.Nat.{le_antisymm, le_refl, eq-or-lt_of_le}
use lib.Dec.{ltb}
use lib.ListN.{length, get_or, set, length-set}
use lib.Seq.{get_or-set_same, get_or-set_other}
use borrow.Author.Tests.{lt-ltb, le-ltb}
use Rattle.search.specs.Choice.{◌when◌else◌}
use Rattle.search.proofs.Choice.{lt_or_le, when_yes, when_no}
use Rattle.table.specs.Limits.{max_distances}
use Rattle.arrivals.specs.Arrivals.{as_listed, δ}
use Rattle.arrivals.specs.Code.Sums.{GreatestTo, Useful, UsefulIn}
use Rattle.arrivals.proofs.Sums.{δ-none, δ-step, δ-last}
use Rattle.arrivals.proofs.Distances.{δ-adds}

module _ (ds : List ℕ) where
  -- a step is useful, or some shorter one begins what comes to as much
  abbrev Shorter : ℕ → ℕ → Type 0
  Shorter n j = (i : ℕ) × (1 ≤ i) × (i < n) × (as_listed ds j ≤ as_listed ds i + δ ds (suc (j - i)))

  sought : (j n : ℕ) → Shorter n j ⊎ ((i : ℕ) → 1 ≤ i → i < n → as_listed ds i + δ ds (suc (j - i)) < as_listed ds j)
  sought j zero = inr (λ i l h. absurd (omega arith))
  sought j (suc n) = ⊎_elim
      (λ a. inl (a.0, a.1, omega (arith, a.2), a.3))
      (λ none. ⊎_elim
      (λ less. inr (λ i l h. ⊎_elim
      (λ e. let f : i ≡ n = omega arith in omega (arith, less, ap (λ k. as_listed ds k + δ ds (suc (j - k))) f))
      (λ g. none i l (omega arith))
      (eq-or-lt_of_le h)))
      (λ more. ⊎_elim
      (λ some. inl (n, some, omega arith, more))
      (λ z. inr (λ i l h. none i l (omega (arith, l, h, z))))
      (lt_or_le 0 n))
      (lt_or_le (as_listed ds n + δ ds (suc (j - n))) (as_listed ds j)))
      (sought j n)

  -- a last step that reaches δ
  record Last (m j : ℕ) : Type 0 where
    pub low : 1 ≤ j
    pub high : j ≤ length ds
    pub within : j ≤ m
    pub reaches : δ ds (suc m) ≡ as_listed ds j + δ ds (suc (m - j))

  -- where it is not useful a shorter one does
  shorter : 1 ≤ length ds → (m j : ℕ) → Last m j → (s : Shorter j j) → Last m s.0
  shorter some m j l s =
      let i = s.0 in
      let adds : δ ds (j - i + 1) + δ ds (m - j + 1) ≤ δ ds (j - i + (m - j) + 1) = δ-adds ds some (j - i) (m - j) in
      let a : suc (j - i) ≡ j - i + 1 = omega arith in
      let b : suc (m - j) ≡ m - j + 1 = omega arith in
      let c : suc (m - i) ≡ j - i + (m - j) + 1 = omega (arith, s.2, l.within) in
      let d : i + (m - i) ≡ m = omega (arith, s.2, l.within) in
      record {
        low = s.1;
        high = omega (arith, s.2, l.high);
        within = omega (arith, s.2, l.within);
        reaches = le_antisymm
            (omega (arith, l.reaches, s.3, adds, ap (δ ds) a, ap (δ ds) b, ap (δ ds) c))
            (omega (arith, δ-step ds i (m - i) s.1 (omega (arith, s.2, l.high)), ap (λ n. δ ds (suc n)) d));
      }

  down : 1 ≤ length ds → (f m j : ℕ) → j ≤ f → Last m j → (i : ℕ) × Last m i × Useful ds i
  down some zero m j h l = absurd (omega (arith, l.low, h))
  down some (suc f) m j h l = ⊎_elim
      (λ s. down some f m s.0 (omega (arith, s.2, h)) (shorter some m j l s))
      (λ u. (j, l, record { more = u }))
      (sought j j)

  pub useful_last : 1 ≤ length ds → (m : ℕ) → 1 ≤ m → (j : ℕ) × (1 ≤ j) × (j ≤ length ds) × Useful ds j × (δ ds (suc m) ≡ as_listed ds j + δ ds (suc (m - j)))
  useful_last some m l =
      let r = δ-last ds some m l in
      let u = down some r.0 m r.0 (le_refl r.0) (record { low = r.1; high = r.2; within = r.3; reaches = r.4 }) in
      (u.0, u.1.low, u.1.high, u.2, u.1.reaches)

  -- the useful ones among those up to m, one after the other
  pub useful_first : (steps : List ℕ) → length steps ≡ max_distances → UsefulIn ds 1 (set steps 0 1) 1
  useful_first steps size = record {
    size = length-set steps 0 1 ∙ size;
    few = le_refl 1;
    low = λ k h. let e : k ≡ 0 = omega arith in omega (arith, is, ap (λ i. get_or (set steps 0 1) i 0) e);
    high = λ k h. let e : k ≡ 0 = omega arith in omega (arith, is, ap (λ i. get_or (set steps 0 1) i 0) e);
    all = λ j l h u. (0, omega arith, omega (arith, is, l, h));
  }
    where
      is : get_or (set steps 0 1) 0 0 ≡ 1
      is = get_or-set_same steps 0 1 0 (omega (arith, size))

  module _ (m n found shortest : ℕ) (steps : List ℕ) (some : 2 ≤ m) (few : m ≤ length ds) (small : length ds ≤ max_distances) (before : UsefulIn ds (m - 1) steps n)
      (tried : GreatestTo ds m m shortest) (is : found ≡ n + (1 when ltb shortest (as_listed ds m) else 0)) where
    abbrev put : List ℕ
    put = set steps n m

    here : get_or put n 0 ≡ m
    here = get_or-set_same steps n m 0 (omega (arith, before.size, before.few))

    there : (k : ℕ) → k < n → get_or put k 0 ≡ get_or steps k 0
    there k h = get_or-set_other steps n k m 0 (λ e. omega (arith, e, h))

    one_more : shortest < as_listed ds m → found ≡ n + 1
    one_more h = is ∙ ap (λ x. n + x) (when_yes {A = ℕ} 1 0 (lt-ltb shortest (as_listed ds m) h))

    at_most : found ≤ n + 1
    at_most = ⊎_elim (λ h. omega (arith, one_more h)) (λ h. omega (arith, is, when_no {A = ℕ} 1 0 (le-ltb shortest (as_listed ds m) h))) (lt_or_le shortest (as_listed ds m))

    at_least : n ≤ found
    at_least = omega (arith, is)

    each : (P : ℕ → Type 0) → P m → ((k : ℕ) → k < n → P (get_or steps k 0)) → (k : ℕ) → k < found → P (get_or put k 0)
    each P last old k h = ⊎_elim
        (λ l. subst P (sym (there k l)) (old k l))
        (λ l. let e : k ≡ n = omega (arith, l, h, at_most) in subst P (sym (ap (λ i. get_or put i 0) e ∙ here)) last)
        (lt_or_le k n)

    pub useful_next : UsefulIn ds m put found
    useful_next = record {
      size = length-set steps n m ∙ before.size;
      few = omega (arith, at_most, before.few, some);
      low = each (λ x. 1 ≤ x) (omega (arith, some)) before.low;
      high = each (λ x. x ≤ m) (le_refl m) (λ k h. omega (arith, before.high k h));
      all = λ j l h u. ⊎_elim
          (λ e. let useful : shortest < as_listed ds m = last (subst (Useful ds) e u) in (n, omega (arith, one_more useful), here ∙ sym e))
          (λ g. let b = before.all j l (omega arith) u in (b.0, omega (arith, b.1, at_least), there b.0 b.1 ∙ b.2))
          (eq-or-lt_of_le h);
    }
      where
        last : Useful ds m → shortest < as_listed ds m
        last u = let o = tried.one (omega (arith, some)) in omega (arith, o.3, u.more o.0 o.1 o.2)

    -- and the greatest sum
    pub sum_is : max shortest (as_listed ds m) ≡ δ ds (suc m)
    sum_is =
        let e : m + 0 ≡ m = omega arith in
        let own : as_listed ds m ≤ δ ds (suc m) = omega (arith, δ-step ds m 0 (omega (arith, some)) few, ap (λ x. δ ds (suc x)) e) in
        let r = δ-last ds (omega (arith, few, some)) m (omega (arith, some)) in
        le_antisymm (omega (arith, tried.within, own))
        (⊎_elim
        (λ f.
        let g : m - r.0 ≡ 0 = omega (arith, f) in
        omega (arith, r.4, ap (as_listed ds) f, ap (λ x. δ ds (suc x)) g, δ-none ds))
        (λ less. omega (arith, r.4, tried.each r.0 r.1 less))
        (eq-or-lt_of_le r.3))

  -- the n useful ones tried, one after the other
  pub record GreatestBy (steps : List ℕ) (m k best : ℕ) : Type 0 where
    pub within : best ≤ δ ds (suc m)
    pub each : (i : ℕ) → i < k → as_listed ds (get_or steps i 0) + δ ds (suc (m - get_or steps i 0)) ≤ best

  pub by-on : (steps : List ℕ) (m k best x : ℕ) → 1 ≤ get_or steps k 0 → get_or steps k 0 ≤ length ds → get_or steps k 0 ≤ m → GreatestBy steps m k best → x ≡ δ ds (suc (m - get_or steps k 0))
      → GreatestBy steps m (k + 1) (max best (as_listed ds (get_or steps k 0) + x))
  by-on steps m k best x low high within t e =
      let j : ℕ = get_or steps k 0 in
      let f : j + (m - j) ≡ m = omega (arith, within) in
      record {
        within = omega (arith, t.within, e, δ-step ds j (m - j) low high, ap (λ n. δ ds (suc n)) f);
        each = λ i h. ⊎_elim
            (λ g. let same : i ≡ k = omega arith in omega (arith, e, ap (λ n. as_listed ds (get_or steps n 0) + δ ds (suc (m - get_or steps n 0))) same))
            (λ g. omega (arith, t.each i (omega arith)))
            (eq-or-lt_of_le h);
      }

  pub by_all : (steps : List ℕ) (m n best : ℕ) → 1 ≤ length ds → 1 ≤ m → UsefulIn ds (length ds) steps n → GreatestBy steps m n best → best ≡ δ ds (suc m)
  by_all steps m n best some l useful t =
      let r = useful_last some m l in
      let k = useful.all r.0 r.1 r.2 r.3 in
      le_antisymm t.within (omega (arith, r.4, t.each k.0 k.1, ap (λ j. as_listed ds j + δ ds (suc (m - j))) k.2))
