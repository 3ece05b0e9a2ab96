-- The multiples of a gap: how many there are, and what each is. Assumes nothing.
use Prim.Native.Nat.{ℕ, ◌+◌, ◌*◌, ◌<◌, ◌≤◌}
use native.Mathlib.Omega.{arith}
use mathlib.Core.Path.{◌≡◌}
use mathlib.Core.Logic.{⊎_elim}
use lib.ListN.{length, get_or, get_or-eq_default}
use Rattle.search.proofs.Choice.{lt_or_le}
use Rattle.table.proofs.Lists.{length-spaced, spaced-at}
use Rattle.converting.specs.Forms.{multiples}

module _ (g : ℕ) where
  pub multiples-long : (n : ℕ) → length (multiples g n) ≡ n
  multiples-long n = length-spaced (λ m. m) g n g

  pub multiple-at : (n j : ℕ) → j < n → get_or (multiples g n) j 0 ≡ g * (j + 1)
  multiple-at n j h = omega (arith, spaced-at (λ m. m) g n j g h)

  pub multiple-past : (n j : ℕ) → n ≤ j → get_or (multiples g n) j 0 ≡ 0
  multiple-past n j h = get_or-eq_default (multiples g n) 0 (omega (arith, multiples-long n))

-- all of them are 0 where the gap is
pub multiple-none : (n j : ℕ) → get_or (multiples 0 n) j 0 ≡ 0
multiple-none n j = ⊎_elim (λ h. omega (arith, multiple-at 0 n j h)) (multiple-past 0 n j) (lt_or_le j n)
