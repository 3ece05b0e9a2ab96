-- Laws of sums, maxima and tests over a list: bounds, an end, and that no order of the elements moves them. Assumes nothing.
use Prim.Native.Nat.{ℕ, suc, max, ◌+◌, ◌*◌, ◌<◌, ◌≤◌}
use mathlib.Core.Path.{◌≡◌, refl, ap, ap₂, subst, ◌∙◌}
use mathlib.Core.Bool.{Bool, true}
use mathlib.Core.List.Permᴰ
use mathlib.Core.List.{List, [], ◌∷◌, ◌++◌, map, Permᴰ}
use native.Mathlib.Omega.{arith}
use lib.ListN.{length, get_or}
use Rattle.search.specs.Lists.{sum_of, most_of, every, All, Paired}
use Rattle.search.proofs.Choice.{both_true}

module _ {A : Type 0} where
  pub sum_append : (f : A → ℕ) (l r : List A) → sum_of f (l ++ r) ≡ sum_of f l + sum_of f r
  unfolding sum_of
  sum_append f [] r = omega arith
  sum_append f (a ∷ l) r = omega (arith, sum_append f l r)

  pub most_append : (f : A → ℕ) (l r : List A) → most_of f (l ++ r) ≡ max (most_of f l) (most_of f r)
  unfolding most_of
  most_append f [] r = omega arith
  most_append f (a ∷ l) r = omega (arith, most_append f l r)

  pub sum_ext : (f g : A → ℕ) (l : List A) → ((a : A) → f a ≡ g a) → sum_of f l ≡ sum_of g l
  unfolding sum_of
  sum_ext f g [] e = refl
  sum_ext f g (a ∷ l) e = ap₂ ◌+◌ (e a) (sum_ext f g l e)

  pub all_map : {P Q : A → Type 0} → ((a : A) → P a → Q a) → (l : List A) → All P l → All Q l
  all_map f [] h = tt
  all_map f (a ∷ l) h = (f a h.0, all_map f l h.1)

  pub all_append : (P : A → Type 0) (l r : List A) → All P l → All P r → All P (l ++ r)
  all_append P [] r x y = y
  all_append P (a ∷ l) r x y = (x.0, all_append P l r x.1 y)

  -- what holds of each by its number
  pub all_of : (P : A → Type 0) (d : A) (l : List A) → ((i : ℕ) → i < length l → P (get_or l i d)) → All P l
  all_of P d [] h = tt
  all_of P d (a ∷ l) h = (h 0 (omega arith), all_of P d l (λ i k. h (suc i) (omega arith)))

  -- every one passes a test exactly where each does
  pub every-says : (p : A → Bool) (l : List A) → every p l ≡ true → All (λ a. p a ≡ true) l
  unfolding every
  every-says p [] e = tt
  every-says p (a ∷ l) e = let b = both_true (p a) (every p l) e in (b.0, every-says p l b.1)

  pub every_given : (p : A → Bool) (l : List A) → All (λ a. p a ≡ true) l → every p l ≡ true
  unfolding every
  every_given p [] h = refl
  every_given p (a ∷ l) h = rw (h.0, every_given p l h.1)

  -- what is no less, element by element, sums to no less
  pub sum_mono : (f g : A → ℕ) (l : List A) → All (λ a. f a ≤ g a) l → sum_of f l ≤ sum_of g l
  unfolding sum_of
  sum_mono f g [] h = omega arith
  sum_mono f g (a ∷ l) h = omega (arith, h.0, sum_mono f g l h.1)

  pub sum_bound : (f : A → ℕ) (most : ℕ) (l : List A) → All (λ a. f a ≤ most) l → sum_of f l ≤ length l * most
  unfolding sum_of
  sum_bound f most [] h = omega arith
  sum_bound f most (a ∷ l) h = omega (arith, h.0, sum_bound f most l h.1)

  -- no order of the elements moves a sum, a maximum, or a test of each
  pub perm_sum : (f : A → ℕ) {l r : List A} → Permᴰ l r → sum_of f l ≡ sum_of f r
  unfolding sum_of
  perm_sum f Permᴰ.nil = refl
  perm_sum f (Permᴰ.cons e p) = ap₂ ◌+◌ (ap f e) (perm_sum f p)
  perm_sum f (Permᴰ.swap e g) = omega (arith, ap f e, ap f g)
  perm_sum f (Permᴰ.trans p q) = perm_sum f p ∙ perm_sum f q

  pub perm_length : {l r : List A} → Permᴰ l r → length l ≡ length r
  perm_length Permᴰ.nil = refl
  perm_length (Permᴰ.cons e p) = ap suc (perm_length p)
  perm_length (Permᴰ.swap e g) = refl
  perm_length (Permᴰ.trans p q) = perm_length p ∙ perm_length q

  pub perm_most : (f : A → ℕ) {l r : List A} → Permᴰ l r → most_of f l ≡ most_of f r
  unfolding most_of
  perm_most f Permᴰ.nil = refl
  perm_most f (Permᴰ.cons e p) = ap₂ max (ap f e) (perm_most f p)
  perm_most f (Permᴰ.swap e g) = omega (arith, ap f e, ap f g)
  perm_most f (Permᴰ.trans p q) = perm_most f p ∙ perm_most f q

  pub perm_all : (P : A → Type 0) {l r : List A} → Permᴰ l r → All P l → All P r
  perm_all P Permᴰ.nil h = h
  perm_all P (Permᴰ.cons e p) h = (subst P e h.0, perm_all P p h.1)
  perm_all P (Permᴰ.swap e g) h = (subst P g h.1.0, (subst P e h.0, h.1.1))
  perm_all P (Permᴰ.trans p q) h = perm_all P q (perm_all P p h)

-- of what the elements give, and of what gives them back
pub all_after : {A B : Type 0} (P : B → Type 0) (f : A → B) (l : List A) → All (λ a. P (f a)) l → All P (map f l)
all_after P f [] h = tt
all_after P f (a ∷ l) h = (h.0, all_after P f l h.1)

pub map_back : {A B : Type 0} (f : B → A) (g : A → B) (l : List A) → All (λ a. f (g a) ≡ a) l → map f (map g l) ≡ l
map_back f g [] h = refl
map_back f g (a ∷ l) h = ap₂ ◌∷◌ h.0 (map_back f g l h.1)

pub sum-map : {A B : Type 0} (f : B → ℕ) (g : A → B) (l : List A) → sum_of f (map g l) ≡ sum_of (λ a. f (g a)) l
unfolding sum_of
sum-map f g [] = refl
sum-map f g (a ∷ l) = ap (λ n. f (g a) + n) (sum-map f g l)

-- pairs alike in what f and g give of them: the two lists give the same in some order
module _ {A B C : Type 0} (f : A → C) (g : B → C) where
  pub related_perm : (ps : List (A × B)) → All (λ p. f p.0 ≡ g p.1) ps
      → Permᴰ (map f (map (λ p. p.0) ps)) (map g (map (λ p. p.1) ps))
  related_perm [] h = Permᴰ.nil
  related_perm (p ∷ ps) h = Permᴰ.cons h.0 (related_perm ps h.1)

  pub paired_perm : {xs : List A} {ys : List B} → Paired (λ a b. f a ≡ g b) xs ys → Permᴰ (map f xs) (map g ys)
  paired_perm p =
      Permᴰ.trans (Permᴰ.map f p.firsts)
      (Permᴰ.trans (related_perm p.pairs p.related) (Permᴰ.map g p.seconds))
