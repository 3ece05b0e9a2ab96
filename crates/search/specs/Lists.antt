-- Sums, maxima and tests over a list, by what each element gives, those that pass a test, and lists paired off one to one.
use Rattle.std.specs.Prelude.{ℕ, max, ◌+◌, Bool, true, false, ◌&&◌, ◌||◌}
use mathlib.Core.List.{List, [], ◌∷◌, map, Permᴰ}
use Rattle.search.specs.Choice.{◌when◌else◌}

-- the sum of what the elements give
unfoldable pub sum_of : {A : Type 0} → (A → ℕ) → List A → ℕ
sum_of f [] = 0
sum_of f (a ∷ l) = f a + sum_of f l

-- the greatest of what the elements give, 0 where there is none
unfoldable pub most_of : {A : Type 0} → (A → ℕ) → List A → ℕ
most_of f [] = 0
most_of f (a ∷ l) = max (f a) (most_of f l)

-- some element passes the test, and every one does
unfoldable pub some : {A : Type 0} → (A → Bool) → List A → Bool
some p [] = false
some p (a ∷ l) = p a || some p l

unfoldable pub every : {A : Type 0} → (A → Bool) → List A → Bool
every p [] = true
every p (a ∷ l) = p a && every p l

-- those that pass a test, in order
unfoldable pub keep : {A : Type 0} → (A → Bool) → List A → List A
keep p [] = []
keep p (a ∷ l) = a ∷ keep p l when p a else keep p l

-- P holds of each element
abbrev pub All : {A : Type 0} → (A → Type 0) → List A → Type 0
All P [] = Unit {0}
All P (a ∷ l) = P a × All P l

-- two lists paired off one to one, each pair related by R: a list of pairs whose first parts are the one list and whose
-- second parts the other, each in some order
pub record Paired {A B : Type 0} (R : A → B → Type 0) (xs : List A) (ys : List B) : Type 0 where
  pub pairs : List (A × B)
  pub firsts : Permᴰ xs (map (λ p. p.0) pairs)
  pub seconds : Permᴰ (map (λ p. p.1) pairs) ys
  pub related : All (λ p. R p.0 p.1) pairs
