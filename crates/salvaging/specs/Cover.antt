-- How the bytes of a damaged table are divided (02, request 8).
use Rattle.std.specs.Prelude.{ℕ, ◌+◌, ◌-◌, ◌<◌, ◌≡◌, List, [], ◌∷◌, map, Bool, length, get_or, eqb}
use Rattle.search.specs.Choice.{◌when◌else◌}
use Rattle.search.specs.Lists.{All, keep}
use Rattle.table.specs.Limits.{max_chains}
use Rattle.table.specs.Record.{length_at}
use Rattle.salvaging.specs.Kept.{kept_places}
use Rattle.salvaging.specs.Skipped.{Stretch, between, skipped}

-- a piece: a record that is kept, a stretch that is skipped, or the rest after a 16th record
pub data Kind : Type 0 where
  record_kept : Kind
  stretch_skipped : Kind
  rest_left : Kind

pub record Piece : Type 0 where
  pub kind : Kind
  pub stretch : Stretch

abbrev kind_number : Kind → ℕ
kind_number Kind.record_kept = 0
kind_number Kind.stretch_skipped = 1
kind_number Kind.rest_left = 2

-- those of a kind, in order
abbrev pub is_of : Kind → Piece → Bool
is_of k p = eqb (kind_number p.kind) (kind_number k)

abbrev pub of_kind : Kind → List Piece → List Stretch
of_kind k pieces = map (λ p. p.stretch) (keep (is_of k) pieces)

-- from `at` up to `to`, each piece starts where the one before ends, and none is empty
unfoldable pub Tiles : ℕ → List Piece → ℕ → Type 0
Tiles at [] to = at ≡ to
Tiles at (p ∷ pieces) to = (p.stretch.offset ≡ at) × (0 < p.stretch.size) × Tiles (at + p.stretch.size) pieces to

-- the stretch of a record, and what lies after it, if anything does
abbrev pub stretch_at : List ℕ → ℕ → Stretch
stretch_at s place = record { offset = place; size = length_at s place }

abbrev pub rest_after : List ℕ → ℕ → List Stretch
rest_after s place = between (place + length_at s place) (length s)

-- the rest: what lies after the 16th record kept, where there is one
abbrev pub rest_of : List ℕ → List Stretch
rest_of s = rest_after s (get_or (kept_places s) (max_chains - 1) 0) when eqb (length (kept_places s)) max_chains else []

-- the records kept, the stretches skipped and the rest cover the bytes exactly once, and in order
pub record Covers (s : List ℕ) : Type 0 where
  pub pieces : List Piece
  pub tiles : Tiles 0 pieces (length s)
  pub keeps : of_kind Kind.record_kept pieces ≡ map (stretch_at s) (kept_places s)
  pub skips : of_kind Kind.stretch_skipped pieces ≡ skipped s
  pub leaves : of_kind Kind.rest_left pieces ≡ rest_of s

-- no two stretches touch: each starts beyond the end of every one before it
unfoldable pub Apart : List Stretch → Type 0
Apart [] = Unit {0}
Apart (x ∷ stretches) = All (λ y. x.offset + x.size < y.offset) stretches × Apart stretches
