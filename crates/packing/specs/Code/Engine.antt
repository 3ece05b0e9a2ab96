-- What the parts of the engine (src/) say of their results. The contracts of `most_uses` and `uses_up_to` need none of it.
use Rattle.std.specs.Prelude.{ℕ, suc, ◌+◌, ◌*◌, ◌≤◌, ◌<◌, ◌≡◌, Bool, true, List, length, get_or, eqb}
use Rattle.std.specs.Int.Bits.{bit_and}
use Rattle.search.specs.Find.{first}
use Rattle.table.specs.Limits.{max_overloads}
use Rattle.packing.specs.Packing.{bit, sum_to, usable, combinations}
use Rattle.packing.specs.Most.{flagged}

-- a byte's greatest value
abbrev pub max_byte : ℕ
max_byte = 255

-- how many weightings there are: packing/weightings.py finds so many
abbrev pub weightings : ℕ
weightings = 975

-- how many are chosen at most: packing/worst.c finds that no set of combinations has more that are worth it
abbrev pub max_chosen : ℕ
max_chosen = 150

-- a byte of room for each active segment
abbrev pub max_room : ℕ
max_room = max_overloads * max_byte

-- that room weighed with bytes
abbrev pub max_weight : ℕ
max_weight = max_room * max_byte

-- the kept combination j
abbrev pub nth : List ℕ → ℕ → ℕ
nth kept j = get_or kept j 0

-- each active segment of the kept combination j is in m
abbrev pub kept_inside : List ℕ → ℕ → ℕ → Bool
kept_inside kept m j = eqb (bit_and (nth kept j) m) (nth kept j)

-- the first of `count` kept combinations that is a part of m, `count` if there is none
abbrev pub kept_part : List ℕ → ℕ → ℕ → ℕ
kept_part kept count m = first (kept_inside kept m) 0 count

-- of the combinations below m: only bad ones are kept, and each bad one has a kept part
pub record Kept (bad kept : List ℕ) (count m : ℕ) : Type 0 where
  pub few : count < m
  pub below : m ≤ combinations
  pub size : length kept ≡ combinations
  pub bads : (j : ℕ) → j < count → (nth kept j < combinations) × (usable (flagged bad) (nth kept j) ≡ true)
  pub parts : (x : ℕ) → x < m → usable (flagged bad) x ≡ true → kept_part kept count x < count

-- `uses` of the first n kept combinations, no active segment beyond its room
pub record Packed (kept : List ℕ) (n : ℕ) (room uses : ℕ → ℕ) : Type 0 where
  pub within : (i : ℕ) → i < max_overloads → sum_to n (λ j. uses j * bit i (nth kept j)) ≤ room i

-- `need` uses of the first n kept combinations have room
pub record HasRoom (kept : List ℕ) (n : ℕ) (room : ℕ → ℕ) (need : ℕ) : Type 0 where
  pub uses : ℕ → ℕ
  pub packed : Packed kept n room uses
  pub total : sum_to n uses ≡ need

-- of the packings of kept combinations that have up to `limit` uses, none has more than r, which is no more than the limit
pub record Ceiling (kept : List ℕ) (count : ℕ) (room : ℕ → ℕ) (limit r : ℕ) : Type 0 where
  pub few : r ≤ limit
  pub bound : (need : ℕ) → need ≤ limit → HasRoom kept count room need → need ≤ r

-- s is a ceiling too wherever r is one
pub record Lowers (kept : List ℕ) (count : ℕ) (room : ℕ → ℕ) (r s : ℕ) : Type 0 where
  pub lower : (limit : ℕ) → Ceiling kept count room limit r → Ceiling kept count room limit s

-- r is the most uses, up to `limit`, that kept combinations have room for
pub record MostUpTo (kept : List ℕ) (count : ℕ) (room : ℕ → ℕ) (limit r : ℕ) : Type 0 where
  pub ceiling : Ceiling kept count room limit r
  pub fits : HasRoom kept count room r

-- what `amount` of each active segment weighs by the weighting v
unfoldable pub weight : List ℕ → ℕ → (ℕ → ℕ) → ℕ
weight shares v amount = sum_to max_overloads (λ i. get_or shares (v * max_overloads + i) 0 * amount i)

-- none of the first n kept combinations weighs less than d by the weighting v
pub record Floor (kept shares : List ℕ) (n v d : ℕ) : Type 0 where
  pub least : (j : ℕ) → j < n → d ≤ weight shares v (λ i. bit i (nth kept j))

-- r is the most uses of m, up to `need`, that the room of the first n active segments is enough for
pub record Fitting (m : ℕ) (room : ℕ → ℕ) (need n r : ℕ) : Type 0 where
  pub few : r ≤ need
  pub enough : (i : ℕ) → i < n → r * bit i m ≤ room i
  pub most : (y : ℕ) → y ≤ need → ((i : ℕ) → i < n → y * bit i m ≤ room i) → y ≤ r

-- of the kept combination `last` fewer than x uses come into question, where the first last + 1 have `need` uses in all, and for each
-- number below x there is room
pub record Choices (kept : List ℕ) (last : ℕ) (room : ℕ → ℕ) (need x : ℕ) : Type 0 where
  pub few : x ≤ need + 1
  pub enough : (y : ℕ) → y < x → (i : ℕ) → i < max_overloads → y * bit i (nth kept last) ≤ room i
  pub fewer : (uses : ℕ → ℕ) → Packed kept (suc last) room uses → sum_to (suc last) uses ≡ need → uses last < x
