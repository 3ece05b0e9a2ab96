-- One of two, by a test or by a number, and what a test says.
use Rattle.std.specs.Prelude.{ℕ, zero, suc, ◌≡◌, Bool, true, false}

infixr 5 ◌when◌else◌
-- `x when t else y`: x where the test holds, else y
unfoldable pub ◌when◌else◌ : {A : Type 0} → A → Bool → A → A
◌when◌else◌ x true y = x
◌when◌else◌ x false y = y

-- a number refuses, each answer in its own way; 0 is no refusal, and what follows is the answer
unfoldable pub by_number : {A : Type 0} → (ℕ → A) → ℕ → A → A
by_number refuse zero answer = answer
by_number refuse (suc n) answer = refuse (suc n)

-- b says whether P holds
pub record Tells (b : Bool) (P : Type 0) : Type 0 where
  pub so : b ≡ true → P
  pub not : b ≡ false → P → ⊥
