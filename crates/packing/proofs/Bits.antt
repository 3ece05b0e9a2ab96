-- Laws of masks: their bits, and one inside another. Assumes nothing.
use Prim.Native.Nat.{ℕ, zero, suc, min, ◌≤◌, ◌<◌, ◌/◌, ◌%◌, ◌^◌}
use mathlib.Core.Path.{◌≡◌, sym, ap, ◌∙◌}
use native.Mathlib.Omega.{arith}
use native.Mathlib.Nat.{div-one}
use native.Mathlib.Numerals.{one-add}
use native.Mathlib.Decide.{dec_lt}
use lib.Bits.{bit_and, and_step, and_shr}
use lib.Pow.{shr-shr}
use Rattle.packing.specs.Packing.{bit}

-- the bits of m / 2
pub bit-suc : (i m : ℕ) → bit (suc i) m ≡ bit i (m / 2)
bit-suc i m = ap (λ n. n % 2) (ap (λ j. m / 2 ^ j) (sym (one-add i)) ∙ sym (shr-shr m 1 i))

pub bit_le : (i m : ℕ) → bit i m ≤ 1
bit_le i m = omega arith

-- a combination that is not empty has an active segment
pub some-bit : (n m : ℕ) → 0 < m → m < 2 ^ n → (i : ℕ) × (i < n) × (bit i m ≡ 1)
some-bit zero m h l = absurd (omega arith)
some-bit (suc n) m h l = elim (dec_lt 0 (m % 2)) [
  | yes o ↦ (0, omega arith, omega (arith, div-one m))
  | no o ↦ let r = some-bit n (m / 2) (omega arith) (omega arith) in (suc r.0, omega (arith, r.1), bit-suc r.0 m ∙ r.2)
]

bit-and : (i a b : ℕ) → bit i (bit_and a b) ≡ min (bit i a) (bit i b)
bit-and i a b = ap (λ n. n % 2) (and_shr a b i) ∙ omega (arith, and_step (a / 2 ^ i) (b / 2 ^ i))

-- a & b == a: each active segment of a is in b
pub inside-bits : (a b : ℕ) → bit_and a b ≡ a → (i : ℕ) → bit i a ≤ bit i b
inside-bits a b e i = omega (arith, ap (bit i) e, bit-and i a b)
