-- Figures written one after the other, for any number of them, and the ways an entry ends. Assumes nothing.
use Prim.Native.Nat.{ℕ, zero, suc, ◌+◌, ◌*◌, ◌≤◌, ◌<◌}
use native.Mathlib.Omega.{arith}
use mathlib.Core.Path.{◌≡◌, refl, ap, sym, ◌∙◌}
use mathlib.Core.List.{List, [], ◌∷◌, ◌++◌, append_assoc, append-nil}
use lib.ListN.{length, take, drop, length-append}
use lib.Seq.{take_at, drop-append-add, drop-drop}
use borrow.Author.Tests.{lt-ltb, le-ltb}
use Rattle.search.proofs.Choice.{when_yes, when_no}
use Rattle.table.specs.Bytes.{bytes_of}
use Rattle.table.proofs.Words.{length-bytes}
use Rattle.editor.specs.Entry.{figure_bytes, starting_with, left_by, Answered}

pub length-figures : (xs : List ℕ) → length (figure_bytes xs) ≡ 4 * length xs
unfolding figure_bytes
length-figures [] = refl
length-figures (x ∷ xs) = omega (arith, length-append (bytes_of 4 x) (figure_bytes xs), length-bytes 4 x, length-figures xs)

figures-more : (xs : List ℕ) (x : ℕ) → figure_bytes (xs ++ (x ∷ [])) ≡ figure_bytes xs ++ bytes_of 4 x
unfolding figure_bytes
figures-more [] x = append-nil (bytes_of 4 x)
figures-more (y ∷ xs) x = ap (λ l. bytes_of 4 y ++ l) (figures-more xs x) ∙ sym (append_assoc (bytes_of 4 y) (figure_bytes xs) (bytes_of 4 x))

-- no figure leaves the buffer as it is
pub figures-none : (before : List ℕ) → starting_with (figure_bytes []) before ≡ before
unfolding figure_bytes
figures-none before = refl

-- a store of the next figure takes what holds some of them to what holds one more
pub stored_next : (xs : List ℕ) (x : ℕ) (before held after : List ℕ) → held ≡ starting_with (figure_bytes xs) before
    → after ≡ take (4 * length xs) held ++ bytes_of 4 x ++ drop (4 * length xs + 4) held → after ≡ starting_with (figure_bytes (xs ++ (x ∷ []))) before
stored_next xs x before held after e f =
    f ∙ ap (λ (l : List ℕ). take (4 * length xs) l ++ bytes_of 4 x ++ drop (4 * length xs + 4) l) e ∙ on
  where
    on : take (4 * length xs) (starting_with (figure_bytes xs) before) ++ bytes_of 4 x ++ drop (4 * length xs + 4) (starting_with (figure_bytes xs) before)
        ≡ starting_with (figure_bytes (xs ++ (x ∷ []))) before
    on =
        let n : length (figure_bytes xs) ≡ 4 * length xs = length-figures xs in
        let m : length (figure_bytes xs ++ bytes_of 4 x) ≡ length (figure_bytes xs) + 4 = omega (arith, length-append (figure_bytes xs) (bytes_of 4 x), length-bytes 4 x) in
        let rest : List ℕ = drop (length (figure_bytes xs)) before in
        let t : take (4 * length xs) (starting_with (figure_bytes xs) before) ≡ figure_bytes xs = take_at (figure_bytes xs) rest (4 * length xs) n in
        let d : drop (4 * length xs + 4) (starting_with (figure_bytes xs) before) ≡ drop 4 rest =
        ap (λ (k : ℕ). drop (k + 4) (starting_with (figure_bytes xs) before)) (sym n) ∙ drop-append-add (figure_bytes xs) rest 4 in
        rw (t, d, figures-more xs x, m, drop-drop 4 (length (figure_bytes xs)) before)

-- the three ways an entry ends
module _ (n number : ℕ) (figures before : List ℕ) where
  pub answered-short : length before < 4 * n → {r : ℕ} → r ≡ 27 → Answered n number figures before before r
  answered-short h e = rw e (record { returns = sym (when_yes 27 number (lt-ltb _ _ h)); leaves = refl })

  module _ (room : 4 * n ≤ length before) where
    pub answered-refusal : (r : ℕ) → number ≡ r → figures ≡ [] → Answered n number figures before before r
    answered-refusal r e f = record { returns = sym (when_no 27 number (le-ltb _ _ room) ∙ e); leaves = kept r }
      where
        kept : (r : ℕ) → before ≡ left_by r (figure_bytes figures) before
        kept zero = sym (ap (λ l. starting_with (figure_bytes l) before) f ∙ figures-none before)
        kept (suc r) = refl

    pub answered-figures : (after : List ℕ) → number ≡ 0 → after ≡ starting_with (figure_bytes figures) before → Answered n number figures before after 0
    answered-figures after e f = record { returns = sym (when_no 27 number (le-ltb _ _ room) ∙ e); leaves = f }
