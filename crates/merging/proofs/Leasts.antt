-- Laws of `lesser` and `least`: the smallest that passes. Assumes nothing.
use Prim.Native.Nat.{ℕ, zero, suc, min, ◌<◌, ◌≤◌}
use native.Mathlib.Omega.{arith}
use mathlib.Core.Path.{◌≡◌, refl, ap, sym, ◌∙◌}
use mathlib.Core.List.{List, [], ◌∷◌}
use mathlib.Core.Bool.{Bool, true, false, ◌||◌}
use mathlib.Core.Logic.{◌⊎◌, inl, inr, ⊎_elim}
use lib.Dec.{eqb}
use borrow.Author.Tests.{ne_eqb, eqb-true, eq-eqb}
use Rattle.search.specs.Choice.{◌when◌else◌}
use Rattle.search.specs.Lists.{some}
use Rattle.search.proofs.Choice.{when_yes, when_no, true-not-false}
use Rattle.table.proofs.Firsts.{or_right, or_cases}
use Rattle.merging.specs.Rule.{among, lesser, least}

pub lesser-left : (n : ℕ) → lesser 0 n ≡ n
lesser-left n = when_yes _ _ (eq-eqb 0 0 refl)

pub lesser-right : (n : ℕ) → lesser n 0 ≡ n
lesser-right zero = when_yes _ _ (eq-eqb 0 0 refl)
lesser-right (suc n) = when_no _ _ (ne_eqb (suc n) 0 (λ e. omega (arith, e))) ∙ when_yes _ _ (eq-eqb 0 0 refl)

pub lesser-both : (n m : ℕ) → 0 < n → 0 < m → lesser n m ≡ min n m
lesser-both n m h l = when_no _ _ (ne_eqb n 0 (λ e. omega (arith, e, h))) ∙ when_no _ _ (ne_eqb m 0 (λ e. omega (arith, e, l)))

pub lesser-on : (a b c : ℕ) → lesser (lesser a b) c ≡ lesser a (lesser b c)
lesser-on zero b c = rw (lesser-left b, lesser-left (lesser b c))
lesser-on (suc a) zero c = rw (lesser-right (suc a), lesser-left c)
lesser-on (suc a) (suc b) zero = rw (lesser-right (lesser (suc a) (suc b)), lesser-right (suc b))
lesser-on (suc a) (suc b) (suc c) =
    let e = lesser-both (suc a) (suc b) (omega arith) (omega arith) in
    let f = lesser-both (suc b) (suc c) (omega arith) (omega arith) in
    let g = lesser-both (min (suc a) (suc b)) (suc c) (omega arith) (omega arith) in
    let h = lesser-both (suc a) (min (suc b) (suc c)) (omega arith) (omega arith) in
    let m : min (min (suc a) (suc b)) (suc c) ≡ min (suc a) (min (suc b) (suc c)) = omega arith in
    ap (λ n. lesser n (suc c)) e ∙ g ∙ m ∙ sym h ∙ ap (lesser (suc a)) (sym f)

-- it is no greater than either, and one of the two
lesser_le : (n m : ℕ) → (0 < n → (0 < lesser n m) × (lesser n m ≤ n)) × (0 < m → (0 < lesser n m) × (lesser n m ≤ m))
lesser_le zero m = (λ h. absurd (omega arith), λ h. rw (lesser-left m) (h, omega arith))
lesser_le (suc n) zero = (λ h. rw (lesser-right (suc n)) (omega arith, omega arith), λ h. absurd (omega arith))
lesser_le (suc n) (suc m) = let e = lesser-both (suc n) (suc m) (omega arith) (omega arith) in
    (λ h. rw e (omega arith, omega arith), λ h. rw e (omega arith, omega arith))

lesser-one : (n m : ℕ) → (lesser n m ≡ n) ⊎ (lesser n m ≡ m)
lesser-one zero m = inr (lesser-left m)
lesser-one (suc n) zero = inl (lesser-right (suc n))
lesser-one (suc n) (suc m) = let e = lesser-both (suc n) (suc m) (omega arith) (omega arith) in
    ⊎_elim (λ h. inl (e ∙ omega arith)) (λ h. inr (e ∙ omega arith)) (le_or_le (suc n) (suc m))
  where
    le_or_le : (a b : ℕ) → (a ≤ b) ⊎ (b ≤ a)
    le_or_le zero b = inl (omega arith)
    le_or_le (suc a) zero = inr (omega arith)
    le_or_le (suc a) (suc b) = ⊎_elim (λ h. inl (omega arith)) (λ h. inr (omega arith)) (le_or_le a b)

module _ (p : ℕ → Bool) where
  -- nothing that passes is smaller
  pub least_le : (l : List ℕ) (n : ℕ) → among l n ≡ true → p n ≡ true → 0 < n → (0 < least p l) × (least p l ≤ n)
  unfolding some least
  least_le [] n h e z = absurd (true-not-false h refl)
  least_le (m ∷ l) n h e z =
      ⊎_elim
      (λ is. let same : m ≡ n = eqb-true m n is in
      let f : (m when p m else 0) ≡ n = when_yes m 0 (ap p same ∙ e) ∙ same in
      let g = (lesser_le (m when p m else 0) (least p l)).0 (omega (arith, f, z)) in
      (g.0, omega (arith, g.1, f)))
      (λ later. let f = least_le l n later e z in
      let g = (lesser_le (m when p m else 0) (least p l)).1 f.0 in
      (g.0, omega (arith, g.1, f.1)))
      (or_cases (eqb m n) (among l n) h)

  -- and it is one of them, and passes
  IsOne : List ℕ → ℕ → Type 0
  IsOne l n = (among l n ≡ true) × (p n ≡ true)

  one_more : (m : ℕ) (l : List ℕ) (n : ℕ) → IsOne l n → IsOne (m ∷ l) n
  unfolding some IsOne
  one_more m l n h = (or_right (eqb m n) (among l n) h.0, h.1)

  here : (m : ℕ) (l : List ℕ) → p m ≡ true → IsOne (m ∷ l) m
  unfolding some IsOne
  here m l e = (ap (λ (t : Bool). t || among l m) (eq-eqb m m refl), e)

  least-one : (l : List ℕ) → 0 < least p l → IsOne l (least p l)
  unfolding least
  least-one [] h = absurd (omega arith)
  least-one (m ∷ l) h = by (p m) refl (least-one l)
    where
      found : (0 < least p l → IsOne l (least p l)) → lesser (m when p m else 0) (least p l) ≡ least p l → IsOne (m ∷ l) (lesser (m when p m else 0) (least p l))
      found more e = rw e (one_more m l (least p l) (more (omega (arith, h, e))))

      by : (t : Bool) → p m ≡ t → (0 < least p l → IsOne l (least p l)) → IsOne (m ∷ l) (lesser (m when p m else 0) (least p l))
      by true e more = ⊎_elim
          (λ f. let g : lesser (m when p m else 0) (least p l) ≡ m = f ∙ when_yes m 0 e in rw g (here m l e))
          (found more) (lesser-one (m when p m else 0) (least p l))
      by false e more = found more (ap (λ n. lesser n (least p l)) (when_no m 0 e) ∙ lesser-left (least p l))

  pub least-is : (l : List ℕ) → 0 < least p l → (among l (least p l) ≡ true) × (p (least p l) ≡ true)
  unfolding IsOne
  least-is l h = least-one l h
