-- The packings of document 01, 'Misses'. A combination is a mask, one bit for each active segment, bit 0 first; which combinations
-- are bad, and what the capacities are, is for the caller to say.
use Rattle.std.specs.Prelude.{ℕ, zero, suc, ◌+◌, ◌*◌, ◌≤◌, ◌<◌, ◌/◌, ◌%◌, ◌^◌, ◌≡◌, Bool, true, ◌&&◌, ltb}
use Rattle.search.specs.Find.{Greatest}
use Rattle.table.specs.Limits.{max_overloads}

-- how many masks there are
abbrev pub combinations : ℕ
combinations = 2 ^ max_overloads

-- 1 if the active segment i is in the combination m, else 0
abbrev pub bit : ℕ → ℕ → ℕ
bit i m = m / 2 ^ i % 2

-- f 0 + f 1 + .. + f (n - 1)
unfoldable pub sum_to : ℕ → (ℕ → ℕ) → ℕ
sum_to zero f = 0
sum_to (suc n) f = sum_to n f + f n

-- m may be used: it is bad, and not the empty combination; where that one is bad, nothing is packed
abbrev pub usable : (ℕ → Bool) → ℕ → Bool
usable bad m = ltb 0 m && bad m

-- 'A packing gives every bad combination a whole number of uses, no active segment used beyond its capacity.'
pub record Packing (bad : ℕ → Bool) (capacity uses : ℕ → ℕ) : Type 0 where
  pub only : (m : ℕ) → m < combinations → 0 < uses m → usable bad m ≡ true
  pub within : (i : ℕ) → i < max_overloads → sum_to combinations (λ m. uses m * bit i m) ≤ capacity i

-- some packing has n uses in all
pub record Reached (bad : ℕ → Bool) (capacity : ℕ → ℕ) (n : ℕ) : Type 0 where
  pub uses : ℕ → ℕ
  pub packing : Packing bad capacity uses
  pub total : sum_to combinations uses ≡ n

-- 'the most uses any packing has': reached by one, exceeded by none
abbrev pub IsMost : (ℕ → Bool) → (ℕ → ℕ) → ℕ → Type 0
IsMost bad capacity n = Greatest (Reached bad capacity) n
