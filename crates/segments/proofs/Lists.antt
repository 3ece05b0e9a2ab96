-- Sums and maxima of lists of lists, without the empty ones, and with the last joined to the first. Assumes nothing.
use Prim.Native.Nat.{ℕ, ◌+◌, ◌<◌, ◌≤◌, max}
use native.Mathlib.Omega.{arith}
use mathlib.Core.Path.{◌≡◌, refl, ap, sym, ◌∙◌}
use mathlib.Core.List.{List, [], ◌∷◌, ◌++◌, append_assoc, map, flatten}
use lib.ListN.{length}
use Rattle.search.specs.Lists.{sum_of, most_of, All}
use Rattle.search.proofs.Lists.{sum_append, all_map}
use Rattle.segments.specs.Segments.{◌on◌, onward, around, nonempty}

module _ {A B : Type 0} (f : A → B) (g : B → ℕ) where
  pub sum-map : (l : List A) → sum_of g (map f l) ≡ sum_of (λ a. g (f a)) l
  unfolding sum_of
  sum-map [] = refl
  sum-map (a ∷ l) = ap (λ n. g (f a) + n) (sum-map l)

  pub most-map : (l : List A) → most_of g (map f l) ≡ most_of (λ a. g (f a)) l
  unfolding most_of
  most-map [] = refl
  most-map (a ∷ l) = ap (max (g (f a))) (most-map l)

pub sum_ones : {A : Type 0} (l : List A) → sum_of (λ a. 1) l ≡ length l
unfolding sum_of
sum_ones [] = refl
sum_ones (a ∷ l) = omega (arith, sum_ones l)

module _ {A : Type 0} (f : A → ℕ) where
  -- each is no more than all together, and so is the greatest
  pub each-sum : (l : List A) → All (λ a. f a ≤ sum_of f l) l
  unfolding sum_of
  each-sum [] = tt
  each-sum (a ∷ l) = (omega arith, all_map (λ b h. omega arith) l (each-sum l))

  pub most-sum : (l : List A) → most_of f l ≤ sum_of f l
  unfolding sum_of most_of
  most-sum [] = omega arith
  most-sum (a ∷ l) = omega (arith, most-sum l)

  pub sum-flatten : (ls : List (List A)) → sum_of f (flatten ls) ≡ sum_of (sum_of f) ls
  unfolding sum_of flatten
  sum-flatten [] = refl
  sum-flatten (l ∷ ls) = sum_append f l (flatten ls) ∙ ap (λ n. sum_of f l + n) (sum-flatten ls)

  pub sum-on : (a : A) (ls : List (List A)) → sum_of (sum_of f) (a on ls) ≡ f a + sum_of (sum_of f) ls
  unfolding sum_of
  sum-on a [] = omega arith
  sum-on a (l ∷ ls) = omega arith

module _ {A : Type 0} where
  pub flatten-on : (a : A) (ls : List (List A)) → flatten (a on ls) ≡ a ∷ flatten ls
  unfolding flatten
  flatten-on a [] = refl
  flatten-on a (l ∷ ls) = refl

  pub flatten_append : (l r : List (List A)) → flatten (l ++ r) ≡ flatten l ++ flatten r
  unfolding flatten
  flatten_append [] r = refl
  flatten_append (a ∷ l) r = ap (λ x. a ++ x) (flatten_append l r) ∙ sym (append_assoc a (flatten l) (flatten r))

-- the empty ones count nothing
module _ {A : Type 0} (f : List A → ℕ) (none : f [] ≡ 0) where
  pub full-sum : (ls : List (List A)) → sum_of f (nonempty ls) ≡ sum_of f ls
  unfolding nonempty sum_of
  full-sum [] = refl
  full-sum ([] ∷ ls) = omega (arith, full-sum ls)
  full-sum ((a ∷ l) ∷ ls) = ap (λ n. f (a ∷ l) + n) (full-sum ls)

  pub full-most : (ls : List (List A)) → most_of f (nonempty ls) ≡ most_of f ls
  unfolding nonempty most_of
  full-most [] = refl
  full-most ([] ∷ ls) = omega (arith, full-most ls)
  full-most ((a ∷ l) ∷ ls) = ap (max (f (a ∷ l))) (full-most ls)

-- each of the lists in a list has elements
abbrev pub Solid : {A : Type 0} → List (List A) → Type 0
Solid ls = All (λ l. 0 < length l) ls

pub solid_on : {A : Type 0} (a : A) (ls : List (List A)) → Solid ls → Solid (a on ls)
solid_on a [] h = (omega arith, tt)
solid_on a (l ∷ ls) h = (omega arith, h.1)

pub full-flatten : {A : Type 0} (ls : List (List (List A))) → All Solid ls → map flatten (nonempty ls) ≡ nonempty (map flatten ls)
unfolding nonempty flatten
full-flatten [] h = refl
full-flatten ([] ∷ ls) h = full-flatten ls h.1
full-flatten (([] ∷ l) ∷ ls) h = absurd (omega (arith, h.0.0))
full-flatten (((a ∷ r) ∷ l) ∷ ls) h = ap (λ rest. (a ∷ (r ++ flatten l)) ∷ rest) (full-flatten ls h.1)

-- the last joined to the first
module _ {A : Type 0} (join : A → A → A) where
  module _ (f : A → ℕ) (adds : (a b : A) → f (join a b) ≡ f a + f b) where
    onward-sum : (s : A) (rs : List A) → sum_of f (onward join s rs) ≡ f s + sum_of f rs
    unfolding onward sum_of
    onward-sum s [] = refl
    onward-sum s (r ∷ []) = omega (arith, adds r s)
    onward-sum s (r ∷ q ∷ rs) = omega (arith, onward-sum s (q ∷ rs))

    pub around-sum : (ls : List A) → sum_of f (around join ls) ≡ sum_of f ls
    unfolding around sum_of
    around-sum [] = refl
    around-sum (s ∷ rs) = onward-sum s rs

  module _ (P : A → Type 0) (keeps : (a b : A) → P a → P b → P (join a b)) where
    onward-all : (s : A) (rs : List A) → P s → All P rs → All P (onward join s rs)
    unfolding onward
    onward-all s [] h g = (h, tt)
    onward-all s (r ∷ []) h g = (keeps r s g.0 h, tt)
    onward-all s (r ∷ q ∷ rs) h g = (g.0, onward-all s (q ∷ rs) h g.1)

    pub around-all : (ls : List A) → All P ls → All P (around join ls)
    unfolding around
    around-all [] h = tt
    around-all (s ∷ rs) h = onward-all s rs h.0 h.1

  module _ {B : Type 0} (also : B → B → B) (f : A → B) (same : (a b : A) → f (join a b) ≡ also (f a) (f b)) where
    onward-map : (s : A) (rs : List A) → map f (onward join s rs) ≡ onward also (f s) (map f rs)
    unfolding onward
    onward-map s [] = refl
    onward-map s (r ∷ []) = ap (λ b. b ∷ []) (same r s)
    onward-map s (r ∷ q ∷ rs) = ap (λ l. f r ∷ l) (onward-map s (q ∷ rs))

    pub around-map : (ls : List A) → map f (around join ls) ≡ around also (map f ls)
    unfolding around
    around-map [] = refl
    around-map (s ∷ rs) = onward-map s rs
