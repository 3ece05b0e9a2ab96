-- What the form of a row decides: its mark, the gap or the flag, the largest distances. Assumes nothing.
use Prim.Native.Nat.{ℕ, ◌<◌}
use native.Mathlib.Omega.{arith}
use mathlib.Core.Path.{◌≡◌, refl, ap, sym, ◌∙◌}
use mathlib.Core.Bool.{Bool, true, false, ◌&&◌}
use mathlib.Core.Logic.{⊎_elim}
use borrow.Author.Tests.{eqb-true, eq-eqb, ne_eqb}
use lib.Dec.{eqb}
use lib.ListN.{length}
use Rattle.search.specs.Choice.{◌when◌else◌}
use Rattle.search.proofs.Choice.{when_yes, when_no, when_cases}
use Rattle.table.specs.Bytes.{bytes_of, Bytes}
use Rattle.table.specs.Record.{gap_form, largest_form, gap_width, known}
use Rattle.table.specs.Fault.{mark_of}
use Rattle.table.specs.declared.Mark.TheVariants.{Chain}
use Rattle.table.proofs.Firsts.{or_left, or_right, or_cases}
use Rattle.table.proofs.Forms.{wide, narrow}
use Rattle.table.proofs.Marks.{chain-form}
use Rattle.table.proofs.Words.{length-bytes, bytes-of}
use Rattle.slices.proofs.Lengths.{form_or}
use Rattle.writing.specs.Rows.{is_form, form_mark, gap_of, flag_of, gap_bytes}

-- The mark

module _ (form : ℕ) where
  pub mark-own : is_form form ≡ true → form_mark form ≡ form
  unfolding form_mark
  mark-own e = when_yes form 0 e

  pub mark-none : is_form form ≡ false → form_mark form ≡ 0
  unfolding form_mark
  mark-none e = when_no form 0 e

  pub mark-small : form_mark form < 65536
  unfolding form_mark
  mark-small = when_cases (λ n. n < 65536) (is_form form)
      (λ e. ⊎_elim (λ f. omega (arith, eqb-true form gap_form f)) (λ f. omega (arith, eqb-true form largest_form f)) (or_cases (eqb form gap_form) (eqb form largest_form) e))
      (λ e. omega arith)

  -- it is a chain's
  pub form-chain : is_form form ≡ true → mark_of form ≡ Chain
  unfolding mark_of ◌when◌else◌
  form-chain e = rw e

  pub chain-is : mark_of form ≡ Chain → is_form form ≡ true
  chain-is e = ⊎_elim (λ f. or_left (eqb form gap_form) _ (eq-eqb form gap_form f)) (λ f. or_right (eqb form gap_form) _ (eq-eqb form largest_form f)) (chain-form form e)

-- The gap or the flag

module _ (form : ℕ) where
  module _ (flag gap : ℕ) where
    pub flag-bytes : form ≡ largest_form → gap_bytes form flag gap ≡ bytes_of 1 flag
    unfolding gap_bytes
    flag-bytes e = when_yes _ _ (eq-eqb form largest_form e)

    pub gap_bytes_holds : (form ≡ largest_form → ⊥) → gap_bytes form flag gap ≡ bytes_of 4 gap
    unfolding gap_bytes
    gap_bytes_holds h = when_no _ _ (ne_eqb form largest_form h)

    pub gap_length : length (gap_bytes form flag gap) ≡ gap_width form
    gap_length = ⊎_elim
        (λ e. ap length (flag-bytes e) ∙ length-bytes 1 flag ∙ sym (narrow form e))
        (λ h. ap length (gap_bytes_holds h) ∙ length-bytes 4 gap ∙ sym (wide form h))
        (form_or form)

    pub are-bytes : Bytes (gap_bytes form flag gap)
    unfolding gap_bytes
    are-bytes = when_cases Bytes (eqb form largest_form) (λ e. bytes-of 1 flag) (λ e. bytes-of 4 gap)

  -- what the form lacks has no byte
  pub lacks-none : (flag gap : ℕ) → gap_bytes form (flag_of form flag) (gap_of form gap) ≡ gap_bytes form flag gap
  unfolding gap_bytes flag_of gap_of ◌when◌else◌
  lacks-none flag gap = by (eqb form largest_form)
    where
      by : (b : Bool) → (bytes_of 1 (flag when b else 0) when b else bytes_of 4 (0 when b else gap)) ≡ (bytes_of 1 flag when b else bytes_of 4 gap)
      by true = refl
      by false = refl

  -- The largest distances

  pub known-flag : (flag listed : ℕ) → known form (flag_of form flag) listed ≡ known form flag listed
  unfolding known flag_of ◌when◌else◌
  known-flag flag listed = by (eqb form largest_form)
    where
      by : (b : Bool) → (listed when b && eqb (flag when b else 0) 1 else 0) ≡ (listed when b && eqb flag 1 else 0)
      by true = refl
      by false = refl
