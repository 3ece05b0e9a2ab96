-- Sets of overload active segments as masks, and which of them are combinations (01, 'Misses').
use Rattle.std.specs.Prelude.{ℕ, ◌/◌, ◌%◌, ◌^◌, Bool, true, ◌&&◌, List, [], ◌∷◌, eqb, ltb, length}
use Rattle.search.specs.Choice.{◌when◌else◌}
use Rattle.search.specs.Lists.{sum_of, every}
use Rattle.misses.specs.Overloads.{Piece}

-- the active segments that a mask holds, one bit for each: bit 0 is the first one's
unfoldable pub members : List Piece → ℕ → List Piece
members [] m = []
members (p ∷ ps) m = p ∷ members ps (m / 2) when eqb (m % 2) 1 else members ps (m / 2)

-- two of one chain are of one of its segments
abbrev pub agree : Piece → Piece → Bool
agree p r = eqb p.segment r.segment when eqb p.chain r.chain else true

-- those of one chain are all from one of its segments; the empty set is a combination
unfoldable pub together : List Piece → Bool
together [] = true
together (p ∷ ps) = every (agree p) ps && together ps

-- a mask is a combination: it has no bit past the last active segment's, and those that it holds may stand together
unfoldable pub allowed : List Piece → ℕ → Bool
allowed ps m = ltb m (2 ^ length ps) && together (members ps m)

-- what some active segments cost together
abbrev pub set_cost : List Piece → ℕ
set_cost ps = sum_of (λ p. p.cost) ps
