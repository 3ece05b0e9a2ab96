-- What types say: an odometer has 64 digits, and the numbers of an array of bytes are bytes. Assumes nothing.
use Prim.Native.Nat.{ℕ, zero, suc, ◌≤◌}
use native.Mathlib.Omega.{arith}
use mathlib.Core.Path.{◌≡◌}
use mathlib.Core.List.{List, [], ◌∷◌}
use lib.ListN.{length, get_or}
use mir.Syntax.{w8}
use mir.Val.{Val}
use denote.Laws.{Is}
use denote.Shadow.{shadow}
use denote.Array.{each}
use denote.Struct.Declared.{row}
use borrow.Kind.Array.{e_int}
use Rattle.odometer.specs.contracts.Odometer.{the_type}
use Rattle.odometer.specs.declared.Odometer.{Odometer}

pub places : (o : Odometer) (vs : List Val) → Is (row the_type) o vs → length o.uses ≡ 64
places o vs h = h.1.1.0.1.0.1

pub bytes : (xs : List ℕ) (us : List Val) → shadow (each ℕ (e_int w8).ty.own_val xs us) → (j : ℕ) → get_or xs j 0 ≤ 255
bytes [] [] h j = omega arith
bytes [] (u ∷ us) h j = absurd h
bytes (x ∷ xs) [] h j = absurd h
bytes (x ∷ xs) (u ∷ us) h zero = omega (arith, h.0.1)
bytes (x ∷ xs) (u ∷ us) h (suc j) = bytes xs us h.1 j
