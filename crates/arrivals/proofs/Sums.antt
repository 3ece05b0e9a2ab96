-- δ by steps: what a last step comes to, and that one of them reaches δ. All else is proved from these two. Assumes nothing.
use Prim.Native.Nat.{ℕ, zero, suc, zero-le, ◌+◌, ◌-◌, ◌≤◌, ◌<◌}
use mathlib.Core.Path.{◌≡◌, refl, ap, subst₂, sym, ◌∙◌}
use mathlib.Core.List.{List, [], ◌∷◌}
use mathlib.Core.Logic.{⊎_elim}
use native.Mathlib.Omega.{arith}
use native.Mathlib.Nat.{le_refl}
use lib.ListN.{length, get_or}
use Rattle.search.specs.Find.{Greatest}
use Rattle.search.specs.Lists.{sum_of, All}
use Rattle.search.proofs.Choice.{lt_or_le}
use Rattle.arrivals.specs.Arrivals.{as_listed, Way, sum_of_steps, greatest, sums_to, δ}

-- a listed distance and the sum in its place
greatest-each : (ds sums : List ℕ) (j : ℕ) → j < length ds → j < length sums → get_or ds j 0 + get_or sums j 0 ≤ greatest ds sums
unfolding greatest
greatest-each [] sums j h g = absurd (omega arith)
greatest-each (d ∷ ds) [] j h g = absurd (omega arith)
greatest-each (d ∷ ds) (x ∷ sums) zero h g = omega arith
greatest-each (d ∷ ds) (x ∷ sums) (suc j) h g = omega (arith, greatest-each ds sums j (omega arith) (omega arith))

greatest-one : (d x : ℕ) (ds sums : List ℕ) → (j : ℕ) × (j ≤ length ds) × (j ≤ length sums) × (greatest (d ∷ ds) (x ∷ sums) ≡ get_or (d ∷ ds) j 0 + get_or (x ∷ sums) j 0)
unfolding greatest
greatest-one d x [] sums = (0, omega arith, omega arith, omega arith)
greatest-one d x (e ∷ ds) [] = (0, omega arith, omega arith, omega arith)
greatest-one d x (e ∷ ds) (y ∷ sums) =
    let r = greatest-one e y ds sums in
    ⊎_elim
    (λ h. (suc r.0, omega (arith, r.1), omega (arith, r.2), omega (arith, r.3)))
    (λ h. (0, omega arith, omega arith, omega arith))
    (lt_or_le (d + x) (greatest (e ∷ ds) (y ∷ sums)))

module _ (ds : List ℕ) where
  sums-length : (m : ℕ) → length (sums_to ds m) ≡ suc m
  unfolding sums_to
  sums-length zero = refl
  sums-length (suc m) = ap suc (sums-length m)

  -- the sums are δ's
  sums_at : (m j i : ℕ) → j + i ≡ m → get_or (sums_to ds m) j 0 ≡ δ ds (suc i)
  unfolding sums_to δ
  sums_at m zero i e = let f : m ≡ i = omega arith in ap (λ n. get_or (sums_to ds n) 0 0) f
  sums_at zero (suc j) i e = absurd (omega arith)
  sums_at (suc m) (suc j) i e = sums_at m j i (omega arith)

  -- δ(1) = 0
  pub δ-none : δ ds 1 ≡ 0
  unfolding δ sums_to
  δ-none = refl

  -- one more step
  pub δ-step : (j i : ℕ) → 1 ≤ j → j ≤ length ds → as_listed ds j + δ ds (suc i) ≤ δ ds (suc (j + i))
  unfolding as_listed δ sums_to
  δ-step zero i l h = absurd (omega arith)
  δ-step (suc j) i l h =
      let e : suc j + i ≡ suc (j + i) = omega arith in
      let a : as_listed ds (suc j) ≡ get_or ds j 0 = refl in
      let b : δ ds (suc (suc (j + i))) ≡ greatest ds (sums_to ds (j + i)) = refl in
      omega (arith, a, b, ap (λ n. δ ds (suc n)) e, greatest-each ds (sums_to ds (j + i)) j h (omega (arith, sums-length (j + i))), sums_at (j + i) j i refl)

  -- and some last step reaches it
  pub δ-last : 1 ≤ length ds → (m : ℕ) → 1 ≤ m → (j : ℕ) × (1 ≤ j) × (j ≤ length ds) × (j ≤ m) × (δ ds (suc m) ≡ as_listed ds j + δ ds (suc (m - j)))
  unfolding as_listed δ sums_to
  δ-last some zero l = absurd (omega arith)
  δ-last some (suc m) l = go ds some (sums_to ds m) (sums-length m) (λ j i e. sums_at m j i e)
    where
      go : (es : List ℕ) → 1 ≤ length es → (sums : List ℕ) → length sums ≡ suc m → ((j i : ℕ) → j + i ≡ m → get_or sums j 0 ≡ δ ds (suc i))
          → (j : ℕ) × (1 ≤ j) × (j ≤ length es) × (j ≤ suc m) × (greatest es sums ≡ as_listed es j + δ ds (suc (suc m - j)))
      go [] h sums e f = absurd (omega arith)
      go (d ∷ es) h [] e f = absurd (omega arith)
      go (d ∷ es) h (x ∷ sums) e f =
          let r = greatest-one d x es sums in
          let j = r.0 in
          let less : j ≤ m = omega (arith, r.2, e) in
          let left : m - j ≡ suc m - suc j = omega arith in
          (suc j, omega arith, omega (arith, r.1), omega arith, r.3 ∙ ap (λ y. get_or (d ∷ es) j 0 + y) (f j (m - j) (omega arith) ∙ ap (λ n. δ ds (suc n)) left))

  -- so what holds of no steps, and stays with one more, holds of δ
  module _ (some : 1 ≤ length ds) (P : ℕ → ℕ → Type 0) (none : P 0 0)
      (more : (j i x : ℕ) → 1 ≤ j → j ≤ length ds → P i x → P (j + i) (as_listed ds j + x)) where
    start : (m : ℕ) → m ≡ 0 → P m (δ ds (suc m))
    start m e = subst₂ P (sym e) (sym (ap (λ n. δ ds (suc n)) e ∙ δ-none)) none

    step : (m : ℕ) → 0 < m → ((i : ℕ) → i < m → P i (δ ds (suc i))) → P m (δ ds (suc m))
    step m l before =
        let r = δ-last some m l in
        let e : r.0 + (m - r.0) ≡ m = omega (arith, r.3) in
        subst₂ P e (sym r.4) (more r.0 (m - r.0) (δ ds (suc (m - r.0))) r.1 r.2 (before (m - r.0) (omega (arith, r.1))))

    below : (f m : ℕ) → m ≤ f → P m (δ ds (suc m))
    below zero m h = start m (omega arith)
    below (suc f) m h = ⊎_elim (λ l. step m l (λ i k. below f i (omega arith))) (λ z. start m (omega arith)) (lt_or_le 0 m)

    pub δ-by-steps : (m : ℕ) → P m (δ ds (suc m))
    δ-by-steps m = below m m (le_refl m)

  -- no way comes to more
  pub δ-each_way : (steps : List ℕ) → All (λ j. (1 ≤ j) × (j ≤ length ds)) steps → sum_of_steps ds steps ≤ δ ds (suc (sum_of (λ j. j) steps))
  unfolding sum_of
  δ-each_way [] h = zero-le
  δ-each_way (j ∷ steps) h =
      omega (arith, δ-each_way steps h.1, δ-step j (sum_of (λ i. i) steps) h.0.0 h.0.1)

  -- δ(n + 1) is the greatest sum over all ways to write n
  pub δ-ways : 1 ≤ length ds → (n : ℕ) → Greatest (λ x. (steps : List ℕ) × Way ds n steps × (x ≡ sum_of_steps ds steps)) (δ ds (suc n))
  unfolding sum_of
  δ-ways some n = record {
    holds = δ-by-steps some (λ n x. (steps : List ℕ) × Way ds n steps × (x ≡ sum_of_steps ds steps))
        ([], record { each = tt; whole = refl }, refl)
        (λ j i x l h w. (j ∷ w.0, record { each = ((l, h), w.1.each); whole = ap (λ k. j + k) w.1.whole }, ap (λ y. as_listed ds j + y) w.2))
        n;
    above = λ x w. omega (arith, w.2, δ-each_way w.0 w.1.each, ap (λ m. δ ds (suc m)) w.1.whole);
  }
