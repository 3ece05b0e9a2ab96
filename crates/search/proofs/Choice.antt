-- Laws of `◌when◌else◌`, and of tests. Assumes nothing.
use Prim.Native.Nat.{ℕ, suc, ◌<◌, ◌≤◌}
use mathlib.Core.Path.{◌≡◌, refl}
use mathlib.Core.Bool.{Bool, true, false, ◌&&◌}
use mathlib.Core.Logic.{◌⊎◌, inl, inr}
use native.Mathlib.Omega.{arith}
use native.Mathlib.Decide.{dec_lt}
use Rattle.search.specs.Choice.{◌when◌else◌, Tells}

pub when_yes : {A : Type 0} (x y : A) {t : Bool} → t ≡ true → (x when t else y) ≡ x
unfolding ◌when◌else◌
when_yes x y e = rw e

pub when_no : {A : Type 0} (x y : A) {t : Bool} → t ≡ false → (x when t else y) ≡ y
unfolding ◌when◌else◌
when_no x y e = rw e

-- what holds of each of the two where it is chosen holds of the choice
pub when_cases : {A : Type 0} {x y : A} (P : A → Type 0) (t : Bool) → (t ≡ true → P x) → (t ≡ false → P y) → P (x when t else y)
unfolding ◌when◌else◌
when_cases P true f g = f refl
when_cases P false f g = g refl

-- no refusal: what it says
pub when_zero : (n m : ℕ) (t : Bool) → (suc n when t else m) ≡ 0 → (t ≡ false) × (m ≡ 0)
unfolding ◌when◌else◌
when_zero n m true e = absurd (omega (arith, e))
when_zero n m false e = (refl, e)

pub true-not-false : {b : Bool} → b ≡ true → b ≡ false → ⊥
true-not-false e f = let z : ◌≡◌ {A = ℕ} 0 1 = cc in omega arith

pub true_or_false : (b : Bool) → (b ≡ true) ⊎ (b ≡ false)
true_or_false true = inl refl
true_or_false false = inr refl

pub both_true : (a b : Bool) → (a && b) ≡ true → (a ≡ true) × (b ≡ true)
both_true true b e = (refl, e)
both_true false b e = absurd (true-not-false e refl)

pub lt_or_le : (a b : ℕ) → (a < b) ⊎ (b ≤ a)
lt_or_le a b = elim (dec_lt a b) [ yes h ↦ inl h | no h ↦ inr (omega arith) ]

-- what a test says
pub tells-so : {P : Type 0} → P → Tells true P
tells-so p = record { so = λ e. p; not = λ e. absurd (true-not-false refl e) }

pub tells-not : {P : Type 0} → (P → ⊥) → Tells false P
tells-not n = record { so = λ e. absurd (true-not-false e refl); not = λ e. n }
