-- The active segments of a mask one by one, as the code goes through them. Assumes nothing.
use Prim.Native.Nat.{ℕ, zero, suc, ◌+◌, ◌-◌, ◌/◌, ◌%◌, ◌^◌, ◌≤◌, ◌<◌}
use mathlib.Core.Path.{◌≡◌, refl, ap, ap₂, sym, ◌∙◌}
use mathlib.Core.Bool.{Bool, true, false, ◌&&◌}
use mathlib.Core.List.{List, [], ◌∷◌}
use mathlib.Core.Logic.{⊎_elim}
use native.Mathlib.Omega.{arith}
use native.Mathlib.Nat.{div-one}
use lib.Dec.{eqb}
use lib.ListN.{length}
use lib.Pow.{shr-shr}
use borrow.Author.Tests.{eq-eqb, ne_eqb}
use Rattle.std.specs.List.{list_all, range_with_len}
use Rattle.search.specs.Choice.{◌when◌else◌}
use Rattle.search.proofs.Choice.{when_yes, when_no, true-not-false, lt_or_le}
use Rattle.packing.specs.Packing.{bit}
use Rattle.misses.specs.Overloads.{Piece}
use Rattle.search.specs.Lists.{every}
use Rattle.misses.specs.Sets.{members, agree}
use Rattle.misses.specs.Code.Held.{piece_at, pieces_at, members_at, agrees_at}
use Rattle.misses.proofs.Bools.{every-yes, every_no, every-end}

module _ (p : Piece) (ps : List Piece) (m : ℕ) where
  pub members_in : m % 2 ≡ 1 → members (p ∷ ps) m ≡ p ∷ members ps (m / 2)
  unfolding members
  members_in e = when_yes _ _ (eq-eqb (m % 2) 1 e)

  pub members-out : (m % 2 ≡ 1 → ⊥) → members (p ∷ ps) m ≡ members ps (m / 2)
  unfolding members
  members-out e = when_no _ _ (ne_eqb (m % 2) 1 e)

module _ (chains segments costs : List ℕ) (n m : ℕ) where
  pub left-on : (i : ℕ) → i < n → pieces_at chains segments costs (n - i) i ≡ piece_at chains segments costs i ∷ pieces_at chains segments costs (n - (i + 1)) (i + 1)
  unfolding pieces_at
  left-on i h = let e : n - i ≡ suc (n - (i + 1)) = omega arith in rw e

  rest : (i : ℕ) → m / 2 ^ i / 2 ≡ m / 2 ^ (i + 1)
  rest i = shr-shr m i 1

  -- the active segment i is in the mask, or it is not
  pub at_in : (i : ℕ) → i < n → bit i m ≡ 1 → members_at chains segments costs n m i ≡ piece_at chains segments costs i ∷ members_at chains segments costs n m (i + 1)
  at_in i h e =
      ap (λ ps. members ps (m / 2 ^ i)) (left-on i h) ∙ members_in _ _ (m / 2 ^ i) e
      ∙ ap (λ k. piece_at chains segments costs i ∷ members (pieces_at chains segments costs (n - (i + 1)) (i + 1)) k) (rest i)

  pub at_out : (i : ℕ) → i < n → (bit i m ≡ 1 → ⊥) → members_at chains segments costs n m i ≡ members_at chains segments costs n m (i + 1)
  at_out i h e =
      ap (λ ps. members ps (m / 2 ^ i)) (left-on i h) ∙ members-out _ _ (m / 2 ^ i) e
      ∙ ap (λ k. members (pieces_at chains segments costs (n - (i + 1)) (i + 1)) k) (rest i)

  pub at-end : (i : ℕ) → n ≤ i → members_at chains segments costs n m i ≡ []
  unfolding pieces_at members
  at-end i h = let e : n - i ≡ 0 = omega arith in rw e

  pub at-start : members_at chains segments costs n m 0 ≡ members (pieces_at chains segments costs n 0) m
  at-start = let e : n - 0 ≡ n = omega arith in ap₂ (λ k j. members (pieces_at chains segments costs k 0) j) e (div-one m)

pub at_length : (chains segments costs : List ℕ) (n i : ℕ) → length (pieces_at chains segments costs n i) ≡ n
unfolding pieces_at
at_length chains segments costs zero i = refl
at_length chains segments costs (suc n) i = ap suc (at_length chains segments costs n (i + 1))

-- a bit is 0 or 1
pub bit-low : (i m : ℕ) → bit i m ≤ 1
bit-low i m = omega arith

-- the active segment i beside the active segment j, if that is in the mask
module _ (chains segments costs : List ℕ) (n m i j : ℕ) (h : j < n) where
  abbrev own : Piece → Bool
  own = agree (piece_at chains segments costs i)

  abbrev tested : Bool
  tested = own (piece_at chains segments costs j) when eqb (bit j m) 1 else true

  step_in : bit j m ≡ 1 → (t : Bool) → tested ≡ t → every own (members_at chains segments costs n m j) ≡ (every own (members_at chains segments costs n m (j + 1)) when t else false)
  unfolding ◌when◌else◌
  step_in b true e = ap (every own) (at_in chains segments costs n m j h b) ∙ every-yes own _ _ (sym (when_yes _ _ (eq-eqb _ _ b)) ∙ e)
  step_in b false e = ap (every own) (at_in chains segments costs n m j h b) ∙ every_no own _ _ (sym (when_yes _ _ (eq-eqb _ _ b)) ∙ e)

  step-out : (bit j m ≡ 1 → ⊥) → (t : Bool) → tested ≡ t → every own (members_at chains segments costs n m j) ≡ (every own (members_at chains segments costs n m (j + 1)) when t else false)
  unfolding ◌when◌else◌
  step-out b true e = ap (every own) (at_out chains segments costs n m j h b)
  step-out b false e = absurd (true-not-false (sym e ∙ when_no _ _ (ne_eqb _ _ b)) refl)

  pub agree-step : (t : Bool) → t ≡ tested → every own (members_at chains segments costs n m j) ≡ (every own (members_at chains segments costs n m (j + 1)) when t else false)
  agree-step t e = ⊎_elim (λ b. step_in (omega (arith, bit-low j m)) t (sym e)) (λ b. step-out (λ c. omega arith) t (sym e)) (lt_or_le 0 (bit j m))

and_when : (t b : Bool) → t && b ≡ (b when t else false)
unfolding ◌when◌else◌
and_when true b = refl
and_when false b = refl

-- beside those of the k from j on that are in the mask
pub agree-all : (chains segments costs : List ℕ) (n m i k j : ℕ) → j + k ≡ n
    → list_all (agrees_at chains segments m i) (range_with_len j k) ≡ every (agree (piece_at chains segments costs i)) (members_at chains segments costs n m j)
agree-all chains segments costs n m i zero j e =
    sym (ap (every (agree (piece_at chains segments costs i))) (at-end chains segments costs n m j (omega arith)) ∙ every-end (agree (piece_at chains segments costs i)))
agree-all chains segments costs n m i (suc k) j e =
    ap (λ b. agrees_at chains segments m i j && b) (agree-all chains segments costs n m i k (j + 1) (omega arith))
    ∙ and_when (agrees_at chains segments m i j) (every (agree (piece_at chains segments costs i)) (members_at chains segments costs n m (j + 1)))
    ∙ sym (agree-step chains segments costs n m i j (omega arith) (agrees_at chains segments m i j) refl)
