-- Laws of tests over a list. Assumes nothing.
use Prim.Native.Nat.{ℕ, zero, suc, ◌+◌, ◌≤◌, ◌<◌}
use mathlib.Core.Path.{◌≡◌, refl, ap, sym, ◌∙◌}
use mathlib.Core.Bool.{Bool, true, false, ◌&&◌, ◌||◌, or-false, or_assoc, and-eq-true_iff}
use mathlib.Core.List.{List, [], ◌∷◌, ◌++◌}
use native.Mathlib.Omega.{arith}
use native.Mathlib.Numerals.{add-one}
use lib.ListN.{length, get_or, drop}
use lib.Seq.{drop-cons}
use Rattle.table.proofs.Firsts.{none_or}
use Rattle.std.specs.List.{list_any}
use Rattle.search.specs.Lists.{some, every}

module _ {A : Type 0} (p : A → Bool) where
  pub every-yes : (a : A) (l : List A) → p a ≡ true → every p (a ∷ l) ≡ every p l
  unfolding every
  every-yes a l e = rw e

  pub every_no : (a : A) (l : List A) → p a ≡ false → every p (a ∷ l) ≡ false
  unfolding every
  every_no a l e = rw e

  pub every-end : every p [] ≡ true
  unfolding every
  every-end = refl

pub and_left : (a b : Bool) → a && b ≡ true → a ≡ true
and_left a b e = ((and-eq-true_iff a b).0 e).0

pub and_right : (a b : Bool) → a && b ≡ true → b ≡ true
and_right a b e = ((and-eq-true_iff a b).0 e).1

pub drop_past : {A : Type 0} (l : List A) (i : ℕ) → length l ≤ i → drop i l ≡ []
drop_past [] zero h = refl
drop_past [] (suc i) h = refl
drop_past (a ∷ l) zero h = absurd (omega arith)
drop_past (a ∷ l) (suc i) h = drop_past l i (omega arith)

module _ {A : Type 0} (p : A → Bool) where
  pub some_append : (l r : List A) → some p (l ++ r) ≡ some p l || some p r
  unfolding some
  some_append [] r = refl
  some_append (a ∷ l) r = ap (λ b. p a || b) (some_append l r) ∙ sym (or_assoc (p a) (some p l) (some p r))

  pub some-yes : (a : A) (l : List A) → p a ≡ true → some p (a ∷ l) ≡ true
  unfolding some
  some-yes a l e = rw e

  pub some_no : (a : A) (l : List A) → p a ≡ false → some p (a ∷ l) ≡ some p l
  unfolding some
  some_no a l e = rw e

  pub some_end : some p [] ≡ false
  unfolding some
  some_end = refl

  -- from the place i on, by the element there
  module _ (l : List A) (i : ℕ) (d : A) (h : i < length l) where
    rest : drop i l ≡ get_or l i d ∷ drop (i + 1) l
    rest = drop-cons l i d h ∙ ap (λ k. get_or l i d ∷ drop k l) (sym (add-one i))

    pub some-here : p (get_or l i d) ≡ true → some p (drop i l) ≡ true
    some-here e = ap (some p) rest ∙ some-yes (get_or l i d) (drop (i + 1) l) e

    pub some-later : p (get_or l i d) ≡ false → some p (drop i l) ≡ some p (drop (i + 1) l)
    some-later e = ap (some p) rest ∙ some_no (get_or l i d) (drop (i + 1) l) e

  pub some-past : (l : List A) (i : ℕ) → length l ≤ i → some p (drop i l) ≡ false
  some-past l i h = ap (some p) (drop_past l i h) ∙ some_end

  -- as the library says it
  pub some-any : (l : List A) → some p l ≡ list_any p l
  unfolding some
  some-any [] = refl
  some-any (a ∷ l) = ap (λ b. p a || b) (some-any l)

  pub some-single : (a : A) → some p (a ∷ []) ≡ p a
  unfolding some
  some-single a = or-false (p a)

  pub some_at : (l : List A) (i : ℕ) (d : A) → some p l ≡ false → i < length l → p (get_or l i d) ≡ false
  unfolding some
  some_at [] i d e h = absurd (omega arith)
  some_at (a ∷ l) zero d e h = (none_or (p a) (some p l) e).0
  some_at (a ∷ l) (suc i) d e h = some_at l i d (none_or (p a) (some p l) e).1 (omega arith)
