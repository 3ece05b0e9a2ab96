-- What is answered of the places found, and left in the two buffers. Assumes nothing.
use Prim.Native.Nat.{ℕ, ◌+◌, ◌<◌, ◌≤◌}
use native.Mathlib.Omega.{arith}
use mathlib.Core.Path.{◌≡◌, refl, ap, sym, ◌∙◌}
use mathlib.Core.List.{List, ◌++◌, map, flatten}
use mathlib.Core.Bool.{true, ◌||◌}
use lib.ListN.{length, drop, length-append}
use lib.Dec.{ltb}
use borrow.Author.Tests.{le-ltb}
use Rattle.search.proofs.Choice.{when_yes, when_no}
use Rattle.table.specs.Limits.{max_input}
use Rattle.table.specs.Record.{end_record}
use Rattle.table.proofs.Firsts.{or_none}
use Rattle.table.proofs.Words.{end-length}
use Rattle.slices.specs.Code.Wrote.{Wrote}
use Rattle.salvaging.specs.Kept.{kept_places}
use Rattle.salvaging.specs.Salvage.{Answer, record_at, table_with, list_with, Salvages}
use Rattle.salvaging.specs.Code.Walk.{Fits}
use Rattle.std.specs.declared.result.Result.TheVariants.{Ok, Err}
use Rattle.table.specs.declared.refusal.Refusal.TheVariants.{BufferShort, InputTooLong, NothingKept}
use Rattle.salvaging.proofs.Answers.{too_long, nothing_kept, is-fitted}

pub table_long : (s places : List ℕ) → length (table_with s places) ≡ length (flatten (map (record_at s) places)) + 4
table_long s places = length-append (flatten (map (record_at s) places)) (end_record (length places)) ∙ ap (λ n. length (flatten (map (record_at s) places)) + n) (end-length (length places))

-- what is written from the first byte on stands first, and the rest stays
pub wrote_first : {before text after : List ℕ} {next : ℕ} → Wrote before 0 text after next → after ≡ text ++ drop (length text) before
wrote_first {before} {text} w = let e : 0 + length text ≡ length text = omega arith in w.holds ∙ ap (λ n. text ++ drop n before) e

module _ (s places table list : List ℕ) where
  pub fits_not : (ltb (length table) (length (table_with s places)) || ltb (length list) (length (list_with s places))) ≡ true → Fits s places table list (Err BufferShort) table list
  fits_not e = record { answers = sym (when_yes _ _ e); leaves_table = sym (when_no _ _ refl); leaves_list = sym (when_no _ _ refl) }

  pub fits_both : length (table_with s places) ≤ length table → length (list_with s places) ≤ length list → {n m : ℕ} → n ≡ length (table_with s places) → m ≡ length (list_with s places)
      → {tableAfter listAfter : List ℕ} → tableAfter ≡ table_with s places ++ drop (length (table_with s places)) table → listAfter ≡ list_with s places ++ drop (length (list_with s places)) list
      → Fits s places table list (Ok (record { table = n; list = m })) tableAfter listAfter
  fits_both a b e f g h = record {
    answers = rw (e, f) (sym (when_no _ _ (or_none _ _ (le-ltb _ _ a) (le-ltb _ _ b))));
    leaves_table = g ∙ sym (when_yes _ _ refl);
    leaves_list = h ∙ sym (when_yes _ _ refl);
  }

-- of the whole input
module _ (s table list : List ℕ) where
  pub salvages-long : max_input < length s → Salvages s table list (Err InputTooLong) table list
  salvages-long h = record { answers = sym (too_long (length table) (length list) s h); leaves_table = sym (when_no _ _ refl); leaves_list = sym (when_no _ _ refl) }

  pub salvages-none : length s ≤ max_input → length (kept_places s) ≡ 0 → Salvages s table list (Err NothingKept) table list
  salvages-none l h = record { answers = sym (nothing_kept (length table) (length list) s l h); leaves_table = sym (when_no _ _ refl); leaves_list = sym (when_no _ _ refl) }

  pub salvages-fit : length s ≤ max_input → 1 ≤ length (kept_places s) → {answer : Answer} {tableAfter listAfter : List ℕ}
      → Fits s (kept_places s) table list answer tableAfter listAfter → Salvages s table list answer tableAfter listAfter
  salvages-fit l h f = record { answers = f.answers ∙ sym (is-fitted (length table) (length list) s l h); leaves_table = f.leaves_table; leaves_list = f.leaves_list }
