-- The records kept, the stretches skipped and the rest cover the bytes exactly once. Assumes nothing.
use Prim.Native.Nat.{ℕ, zero, suc, ◌+◌, ◌-◌, ◌<◌, ◌≤◌}
use native.Mathlib.Omega.{arith}
use native.Mathlib.Nat.{eq-or-lt_of_le}
use mathlib.Core.Path.{◌≡◌, refl, ap, sym, ◌∙◌}
use mathlib.Core.List.{List, [], ◌∷◌, ◌++◌, map, append-nil}
use mathlib.Core.Bool.{true, false}
use mathlib.Core.Logic.{⊎_elim}
use lib.ListN.{length, get_or}
use lib.Dec.{ltb}
use borrow.Author.Tests.{ltb-true, ltb-false, eq-eqb, ne_eqb}
use Rattle.search.specs.Choice.{◌when◌else◌}
use Rattle.search.specs.Lists.{All, keep}
use Rattle.search.proofs.Choice.{when_yes, when_no, when_cases}
use Rattle.search.proofs.Lists.{all_map, all_append}
use Rattle.table.specs.Limits.{max_chains}
use Rattle.table.specs.Record.{length_at}
use Rattle.table.specs.Read.{empty}
use Rattle.salvaging.specs.Kept.{kept_places}
use Rattle.salvaging.specs.Skipped.{Stretch, between, skipped_from, skipped}
use Rattle.salvaging.specs.Cover.{Kind, Piece, is_of, of_kind, Tiles, stretch_at, rest_after, Covers, Apart}
use Rattle.salvaging.specs.Code.Walk.{InOrder}
use Rattle.salvaging.proofs.Walks.{kept-order}
use Rattle.salvaging.proofs.Results.{kept-most}

abbrev piece_of : Kind → Stretch → Piece
piece_of k x = record { kind = k; stretch = x }

-- the pieces from `at` on, beside the records kept at these places, while `left` more could have been
unfoldable pieces_from : ℕ → List ℕ → ℕ → List ℕ → List Piece
pieces_from zero s at places = map (piece_of Kind.rest_left) (between at (length s))
pieces_from (suc left) s at [] = map (piece_of Kind.stretch_skipped) (between at (length s))
pieces_from (suc left) s at (place ∷ places) =
    map (piece_of Kind.stretch_skipped) (between at place) ++ piece_of Kind.record_kept (stretch_at s place) ∷ pieces_from left s (place + length_at s place) places

-- of pieces of one kind all are of it, and none of another
of-own : (k : Kind) (l : List Stretch) (rest : List Piece) → ((x : Stretch) → is_of k (piece_of k x) ≡ true) → of_kind k (map (piece_of k) l ++ rest) ≡ l ++ of_kind k rest
unfolding keep
of-own k [] rest e = refl
of-own k (x ∷ l) rest e = ap (map (λ p. p.stretch)) (when_yes _ _ (e x)) ∙ ap (λ (m : List Stretch). x ∷ m) (of-own k l rest e)

of_other : (j k : Kind) (l : List Stretch) (rest : List Piece) → ((x : Stretch) → is_of j (piece_of k x) ≡ false) → of_kind j (map (piece_of k) l ++ rest) ≡ of_kind j rest
unfolding keep
of_other j k [] rest e = refl
of_other j k (x ∷ l) rest e = ap (map (λ p. p.stretch)) (when_no _ _ (e x)) ∙ of_other j k l rest e

all_own : (k : Kind) (l : List Stretch) → ((x : Stretch) → is_of k (piece_of k x) ≡ true) → of_kind k (map (piece_of k) l) ≡ l
unfolding keep
all_own k l e = ap (of_kind k) (sym (append-nil (map (piece_of k) l))) ∙ of-own k l [] e ∙ append-nil l

none_other : (j k : Kind) (l : List Stretch) → ((x : Stretch) → is_of j (piece_of k x) ≡ false) → of_kind j (map (piece_of k) l) ≡ []
unfolding keep
none_other j k l e = ap (of_kind j) (sym (append-nil (map (piece_of k) l))) ∙ of_other j k l [] e

-- a stretch between two places, and what follows it
tiles-between : (k : Kind) (at to : ℕ) (rest : List Piece) (end : ℕ) → at ≤ to → Tiles to rest end → Tiles at (map (piece_of k) (between at to) ++ rest) end
unfolding between Tiles
tiles-between k at to rest end l h = when_cases (λ (x : List Stretch). Tiles at (map (piece_of k) x ++ rest) end) (ltb at to)
    (λ e. let m : at + (to - at) ≡ to = omega arith in (refl, omega (arith, ltb-true at to e), rw m h))
    (λ e. let m : at ≡ to = omega (arith, ltb-false at to e) in rw m h)

-- up to the end
tiles-end : (k : Kind) (s : List ℕ) (at : ℕ) → at ≤ length s → Tiles at (map (piece_of k) (between at (length s))) (length s)
unfolding Tiles
tiles-end k s at l = rw append-nil at (tiles-between k at (length s) [] (length s) l refl)

-- what lies between two places, if anything does
pub all-between : (P : Stretch → Type 0) (at to : ℕ) → (at < to → P (record { offset = at; size = to - at })) → All P (between at to)
unfolding between
all-between P at to h = when_cases (All P) (ltb at to) (λ e. (h (ltb-true at to e), tt)) (λ e. tt)

-- a stretch that starts at a place or later
abbrev Starts : ℕ → Stretch → Type 0
Starts at x = at ≤ x.offset

module _ (s : List ℕ) where
  tiled : (left at : ℕ) (places : List ℕ) → length places ≤ left → InOrder s at places → Tiles at (pieces_from left s at places) (length s)
  unfolding pieces_from InOrder Tiles
  tiled zero at [] n h = tiles-end Kind.rest_left s at h
  tiled zero at (place ∷ places) n h = absurd (omega arith)
  tiled (suc left) at [] n h = tiles-end Kind.stretch_skipped s at h
  tiled (suc left) at (place ∷ places) n h =
      tiles-between Kind.stretch_skipped at place _ (length s) h.0 (refl, omega arith, tiled left (place + length_at s place) places (omega arith) h.1)

  keeps-are : (left at : ℕ) (places : List ℕ) → length places ≤ left → of_kind Kind.record_kept (pieces_from left s at places) ≡ map (stretch_at s) places
  unfolding pieces_from keep ◌when◌else◌
  keeps-are zero at [] n = none_other Kind.record_kept Kind.rest_left (between at (length s)) (λ x. refl)
  keeps-are zero at (place ∷ places) n = absurd (omega arith)
  keeps-are (suc left) at [] n = none_other Kind.record_kept Kind.stretch_skipped (between at (length s)) (λ x. refl)
  keeps-are (suc left) at (place ∷ places) n =
      of_other Kind.record_kept Kind.stretch_skipped (between at place) _ (λ x. refl)
      ∙ ap (λ (l : List Stretch). stretch_at s place ∷ l) (keeps-are left (place + length_at s place) places (omega arith))

  skips-are : (left at : ℕ) (places : List ℕ) → of_kind Kind.stretch_skipped (pieces_from left s at places) ≡ skipped_from left s at places
  unfolding pieces_from skipped_from keep ◌when◌else◌
  skips-are zero at places = none_other Kind.stretch_skipped Kind.rest_left (between at (length s)) (λ x. refl)
  skips-are (suc left) at [] = all_own Kind.stretch_skipped (between at (length s)) (λ x. refl)
  skips-are (suc left) at (place ∷ places) =
      of-own Kind.stretch_skipped (between at place) _ (λ x. refl)
      ∙ ap (λ (l : List Stretch). between at place ++ l) (skips-are left (place + length_at s place) places)

  -- nothing is left with fewer records than could have been, and after the last of as many the rest is
  rest-none : (left at : ℕ) (places : List ℕ) → length places < left → of_kind Kind.rest_left (pieces_from left s at places) ≡ []
  unfolding pieces_from keep ◌when◌else◌
  rest-none zero at places n = absurd (omega arith)
  rest-none (suc left) at [] n = none_other Kind.rest_left Kind.stretch_skipped (between at (length s)) (λ x. refl)
  rest-none (suc left) at (place ∷ places) n =
      of_other Kind.rest_left Kind.stretch_skipped (between at place) _ (λ x. refl) ∙ rest-none left (place + length_at s place) places (omega arith)

  rest-after : (left at : ℕ) (places : List ℕ) → length places ≡ suc left → of_kind Kind.rest_left (pieces_from (suc left) s at places) ≡ rest_after s (get_or places left 0)
  unfolding pieces_from keep ◌when◌else◌
  rest-after left at [] n = absurd (omega arith)
  rest-after zero at (place ∷ places) n =
      of_other Kind.rest_left Kind.stretch_skipped (between at place) _ (λ x. refl) ∙ all_own Kind.rest_left (rest_after s place) (λ x. refl)
  rest-after (suc left) at (place ∷ places) n =
      of_other Kind.rest_left Kind.stretch_skipped (between at place) _ (λ x. refl) ∙ rest-after left (place + length_at s place) places (omega arith)

  pub covered : Covers s
  covered = record {
    pieces = pieces_from max_chains s 0 (kept_places s);
    tiles = tiled max_chains 0 (kept_places s) (kept-most s) (kept-order s (length s) 0 empty (omega arith));
    keeps = keeps-are max_chains 0 (kept_places s) (kept-most s);
    skips = skips-are max_chains 0 (kept_places s);
    leaves = ⊎_elim
        (λ e. rest-after 15 0 (kept_places s) e ∙ sym (when_yes _ _ (eq-eqb _ _ e)))
        (λ l. rest-none max_chains 0 (kept_places s) l ∙ sym (when_no _ _ (ne_eqb (length (kept_places s)) max_chains (λ e. omega (arith, l, e)))))
        (eq-or-lt_of_le (kept-most s));
  }

  -- what is skipped from a place on starts there or later, and no two stretches touch
  later : (left at : ℕ) (places : List ℕ) → InOrder s at places → All (Starts at) (skipped_from left s at places)
  unfolding skipped_from InOrder
  later zero at places h = tt
  later (suc left) at [] h = all-between (Starts at) at (length s) (λ l. omega arith)
  later (suc left) at (place ∷ places) h =
      let next = place + length_at s place in
      all_append (Starts at) (between at place) (skipped_from left s next places) (all-between (Starts at) at place (λ l. omega arith))
      (all_map {P = Starts next} {Q = Starts at} (λ x l. omega (arith, l, h.0)) (skipped_from left s next places) (later left next places h.1))

  apart : (left at : ℕ) (places : List ℕ) → InOrder s at places → Apart (skipped_from left s at places)
  unfolding skipped_from InOrder between Apart
  apart zero at places h = tt
  apart (suc left) at [] h = when_cases Apart _ (λ e. (tt, tt)) (λ e. tt)
  apart (suc left) at (place ∷ places) h =
      let next = place + length_at s place in
      let rest = apart left next places h.1 in
      when_cases (λ (x : List Stretch). Apart (x ++ skipped_from left s next places)) _
      (λ e. (all_map {P = Starts next} {Q = λ (x : Stretch). at + (place - at) < x.offset} (λ x l. omega (arith, l, h.0)) (skipped_from left s next places) (later left next places h.1), rest))
      (λ e. rest)

  pub skipped-apart : Apart (skipped s)
  skipped-apart = apart max_chains 0 (kept_places s) (kept-order s (length s) 0 empty (omega arith))
