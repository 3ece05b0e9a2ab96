-- Numbers in the table: little-endian (01, 'Stored table').
use Rattle.std.specs.Prelude.{ℕ, zero, suc, ◌+◌, ◌*◌, ◌/◌, ◌%◌, ◌<◌, List, [], ◌∷◌, get_or}

-- the number that the n bytes from `at` on make, the first byte the smallest
unfoldable pub word : ℕ → List ℕ → ℕ → ℕ
word zero s at = 0
word (suc n) s at = get_or s at 0 + 256 * word n s (at + 1)

-- the n bytes that make x, the smallest first: what `word` reads back
unfoldable pub bytes_of : ℕ → ℕ → List ℕ
bytes_of zero x = []
bytes_of (suc n) x = x % 256 ∷ bytes_of n (x / 256)

-- each number of the list is a byte
abbrev pub Bytes : List ℕ → Type 0
Bytes s = (i : ℕ) → get_or s i 0 < 256
