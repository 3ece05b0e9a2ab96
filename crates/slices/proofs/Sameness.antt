-- Laws of `same`: it tells whether two lists are equal. Assumes nothing.
use Prim.Native.Nat.{ℕ}
use mathlib.Core.Path.{◌≡◌, refl, ap₂}
use mathlib.Core.List.{List, [], ◌∷◌}
use mathlib.Core.Bool.{Bool, true, false}
use borrow.Author.Tests.{eq-eqb, eqb-true}
use lib.Dec.{eqb}
use Rattle.search.proofs.Choice.{true-not-false, both_true}
use Rattle.slices.specs.Slices.{same}

pub same_refl : (a : List ℕ) → same a a ≡ true
unfolding same
same_refl [] = refl
same_refl (x ∷ a) = rw (eq-eqb x x refl) (same_refl a)

pub same_true : (a b : List ℕ) → same a b ≡ true → a ≡ b
unfolding same
same_true [] [] e = refl
same_true [] (y ∷ b) e = absurd (true-not-false e refl)
same_true (x ∷ a) [] e = absurd (true-not-false e refl)
same_true (x ∷ a) (y ∷ b) e = let f = both_true (eqb x y) (same a b) e in ap₂ ◌∷◌ (eqb-true x y f.0) (same_true a b f.1)

is_false : (t : Bool) → (t ≡ true → ⊥) → t ≡ false
is_false true h = absurd (h refl)
is_false false h = refl

pub same-yes : (a b : List ℕ) → a ≡ b → same a b ≡ true
same-yes a b e = rw e (same_refl b)

pub same_no : (a b : List ℕ) → (a ≡ b → ⊥) → same a b ≡ false
same_no a b h = is_false (same a b) (λ e. h (same_true a b e))
