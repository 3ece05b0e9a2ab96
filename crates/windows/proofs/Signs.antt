-- A signed number of 32 bits by its sign, and -1 less a number below 0, as the code holds them. Assumes nothing.
use Prim.Native.Nat.{ℕ, suc, ◌<◌}
use native.Mathlib.Omega.{arith}
use mathlib.Core.Path.{◌≡◌, refl, ap, sym, ◌∙◌}
use mathlib.Core.Bool.{true, false}
use borrow.Author.Tests.{le-ltb, leb-false}
use lib.Dec.{T}
use lib.IntN.{ℤ, pos, negsuc, nat_abs, ◌-ℤ◌}
use lib.Signed.{le_z, non_neg}
use mir.Val.{Fits, SFits, to_z, of_z}
use mir.Syntax.{w32}
use mir.Facts.{to_z-of_z}

-- at least 0: it's its own magnitude, which fits
pub record Upper (x : ℤ) : Type 0 where
  pub is : x ≡ pos (nat_abs x)
  pub held : to_z w32 (of_z w32 x) ≡ x
  pub cast : T (non_neg (to_z w32 (of_z w32 x))) × Fits w32 (nat_abs (to_z w32 (of_z w32 x)))

-- below 0: it's -1 less a number, which fits
pub record Lower (x : ℤ) : Type 0 where
  pub rest : ℕ
  pub small : rest < 2147483648
  pub is : x ≡ negsuc rest
  pub less : SFits w32 (negsuc 0 -ℤ to_z w32 (of_z w32 x))
  pub held : to_z w32 (of_z w32 (negsuc 0 -ℤ to_z w32 (of_z w32 x))) ≡ pos rest

upper_of : (x : ℤ) → SFits w32 x → le_z (pos 0) x ≡ true → Upper x
upper_of (pos n) f e = record { is = refl; held = to_z-of_z f; cast = rw (to_z-of_z f) (tt, record { fits = omega (arith, f.sfits) }) }
upper_of (negsuc n) f e = absurd (let z : ◌≡◌ {A = ℕ} 0 1 = cc in omega arith)

lower_of : (x : ℤ) → SFits w32 x → le_z (pos 0) x ≡ false → Lower x
lower_of (pos n) f e = absurd (omega (arith, leb-false 0 n e))
lower_of (negsuc n) f e =
    let less : negsuc 0 -ℤ to_z w32 (of_z w32 (negsuc n)) ≡ pos n = rw (to_z-of_z f, le-ltb (suc n) 1 (omega arith)) (ap pos (omega arith)) in
    let fits : SFits w32 (pos n) = record { sfits = omega (arith, f.sfits) } in
    record { rest = n; small = omega (arith, f.sfits); is = refl; less = rw less fits; held = rw less (to_z-of_z fits) }

-- by the test as the code makes it
module _ (x : ℤ) (f : SFits w32 x) where
  pub upper : le_z (pos 0) (to_z w32 (of_z w32 x)) ≡ true → Upper x
  upper e = upper_of x f (ap (le_z (pos 0)) (sym (to_z-of_z f)) ∙ e)

  pub lower : le_z (pos 0) (to_z w32 (of_z w32 x)) ≡ false → Lower x
  lower e = lower_of x f (ap (le_z (pos 0)) (sym (to_z-of_z f)) ∙ e)
