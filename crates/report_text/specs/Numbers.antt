-- Numbers as text, in ASCII.
use Rattle.std.specs.Prelude.{ℕ, zero, suc, ◌+◌, ◌*◌, ◌-◌, ◌/◌, ◌%◌, List, [], ◌∷◌, ◌++◌, ltb, ℤ, pos, negsuc}
use Rattle.search.specs.Choice.{◌when◌else◌}

-- the last digits of n, at most as many as the first number says: the last one after those of n / 10, where these are any
unfoldable pub digits : ℕ → ℕ → List ℕ
digits zero n = []
digits (suc most) n = (digits most (n / 10) when ltb 9 n else []) ++ ((48 + n % 10) ∷ [])

-- a number in decimal, without leading zeros: n has no more than n + 1 digits
unfoldable pub decimal : ℕ → List ℕ
decimal n = digits (n + 1) n

-- a signed number: `-` stands before one below 0, and nothing before any other
abbrev pub signed : ℤ → List ℕ
signed (pos n) = decimal n
signed (negsuc n) = 45 ∷ decimal (suc n)

-- the number that digits make, the most significant first, after those that make m
unfoldable pub value_from : ℕ → List ℕ → ℕ
value_from m [] = m
value_from m (d ∷ ds) = value_from (10 * m + (d - 48)) ds
