-- The first n of a list, and what is left of them from number i on. Assumes nothing.
use Prim.Native.Nat.{ℕ, min, ◌+◌, ◌<◌, ◌≤◌}
use native.Mathlib.Omega.{arith}
use native.Mathlib.Numerals.{add-one}
use mathlib.Core.Path.{◌≡◌}
use mathlib.Core.List.{List, [], ◌∷◌, ◌++◌}
use lib.ListN.{length, get_or, take, drop, length-take, drop_of_length-le}
use lib.Seq.{drop-cons, get_or-take, take-suc}

module _ {A : Type 0} (l : List A) (n : ℕ) where
  pub left-on : (i : ℕ) (d : A) → i < n → i < length l → drop i (take n l) ≡ get_or l i d ∷ drop (i + 1) (take n l)
  left-on i d k h = rw (add-one, ← get_or-take n l i d k) (drop-cons (take n l) i d (omega (arith, length-take n l)))

  pub left-none : (i : ℕ) → min (length l) n ≤ i → drop i (take n l) ≡ []
  left-none i h = drop_of_length-le (take n l) {i = i} (omega (arith, length-take n l))

-- one more of them
pub take_more : {A : Type 0} (l : List A) (i : ℕ) (d : A) → i < length l → take (i + 1) l ≡ take i l ++ (get_or l i d ∷ [])
take_more l i d h = rw add-one (take-suc l i d h)
