-- Two lists matched one by one. Assumes nothing.
use Prim.Native.Nat.{ℕ, zero, suc, ◌≤◌}
use mathlib.Core.Path.{◌≡◌, refl, ap, ◌∙◌}
use mathlib.Core.Bool.{Bool, true, false, ◌||◌, or-true}
use mathlib.Core.List.{List, [], ◌∷◌, ◌++◌, map}
use native.Mathlib.Omega.{arith}
use native.Mathlib.Nat.{le_refl}
use lib.ListN.{length, get_or}
use Rattle.search.specs.Lists.{All, sum_of, some}

-- as many of both, and R holds of each and the other in its place
pub data Matched {A B : Type 0} (R : A → B → Type 0) : List A → List B → Type 0 where
  none : Matched R [] []
  more : {a : A} {b : B} {l : List A} {r : List B} → R a b → Matched R l r → Matched R (a ∷ l) (b ∷ r)

-- a list and itself
pub matched_same : {A : Type 0} {P : A → Type 0} {R : A → A → Type 0} → ((a : A) → P a → R a a) → (l : List A) → All P l → Matched R l l
matched_same each [] h = Matched.none
matched_same each (a ∷ l) h = Matched.more (each a h.0) (matched_same each l h.1)

-- where each gives no more than the other, so do all together
pub matched_sum : {A B : Type 0} {R : A → B → Type 0} (f : A → ℕ) (g : B → ℕ) → ((a : A) (b : B) → R a b → f a ≤ g b) → {l : List A} {r : List B} → Matched R l r
    → sum_of f l ≤ sum_of g r
unfolding sum_of
matched_sum f g less Matched.none = le_refl 0
matched_sum f g less (Matched.more {a = a} {b = b} h m) = omega (arith, less a b h, matched_sum f g less m)

module _ {A B : Type 0} {R : A → B → Type 0} where
  pub matched_length : {l : List A} {r : List B} → Matched R l r → length l ≡ length r
  matched_length Matched.none = refl
  matched_length (Matched.more h m) = ap suc (matched_length m)

  pub matched_append : {l k : List A} {r s : List B} → Matched R l r → Matched R k s → Matched R (l ++ k) (r ++ s)
  matched_append Matched.none n = n
  matched_append (Matched.more h m) n = Matched.more h (matched_append m n)

  -- where one of the first passes a test, so does one of the second
  pub matched_some : (p : A → Bool) (q : B → Bool) → ((a : A) (b : B) → R a b → p a ≡ true → q b ≡ true) → {l : List A} {r : List B} → Matched R l r
      → some p l ≡ true → some q r ≡ true
  unfolding some
  matched_some p q passes Matched.none e = e
  matched_some p q passes (Matched.more {a = a} {b = b} {l = l} {r = r} h m) e = go (p a) refl e (matched_some p q passes m)
    where
      go : (t : Bool) → p a ≡ t → (t || some p l) ≡ true → (some p l ≡ true → some q r ≡ true) → (q b || some q r) ≡ true
      go true f g rest = ap (λ t. t || some q r) (passes a b h f)
      go false f g rest = ap (λ t. q b || t) (rest g) ∙ or-true (q b)

-- what two functions give
pub matched_map : {A B C D : Type 0} {R : A → B → Type 0} {S : C → D → Type 0} (f : A → C) (g : B → D) → ((a : A) (b : B) → R a b → S (f a) (g b))
    → {l : List A} {r : List B} → Matched R l r → Matched S (map f l) (map g r)
matched_map f g each Matched.none = Matched.none
matched_map f g each (Matched.more {a = a} {b = b} h m) = Matched.more (each a b h) (matched_map f g each m)

-- numbers, by their place
pub matched_le : {l r : List ℕ} → Matched ◌≤◌ l r → (i : ℕ) → get_or l i 0 ≤ get_or r i 0
matched_le Matched.none i = le_refl 0
matched_le (Matched.more h m) zero = h
matched_le (Matched.more h m) (suc i) = matched_le m i
