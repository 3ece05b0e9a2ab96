-- The two ways a conversion's entry ends, for either form. Assumes nothing.
use Prim.Native.Nat.{ℕ, ◌<◌, ◌≤◌}
use mathlib.Core.Path.{◌≡◌, ap, sym, subst, ◌∙◌}
use mathlib.Core.List.{List}
use lib.ListN.{length}
use borrow.Author.Tests.{lt-ltb, le-ltb}
use Rattle.search.proofs.Choice.{when_yes, when_no}
use Rattle.table.specs.Refusal.{number_of, one_value}
use Rattle.writing.specs.Write.{Written, buffer_after}
use Rattle.converting.specs.Convert.{rows_in, converted_of, Converts}
use Rattle.converting.specs.declared.To.{To}
use Rattle.editor.specs.Entry.{Answered, ConvertEntry}
use Rattle.editor.proofs.Writing.{answered-short}

module _ (to : To) (table buffer answer : List ℕ) where
  abbrev converted : Written
  converted = converted_of to (length buffer) table

  pub convert-short : length answer < 4 → {r : ℕ} → r ≡ 27 → ConvertEntry to table buffer answer buffer answer r
  convert-short h e = record {
    answers = answered-short 1 (number_of converted) (one_value converted) answer h e;
    leaves = sym (when_yes buffer (buffer_after converted (rows_in to table) buffer) (lt-ltb (length answer) 4 h));
  }

  pub convert-done : 4 ≤ length answer → (w : Written) (bufferAfter' answerAfter : List ℕ) (r : ℕ) → Converts to table buffer w bufferAfter'
      → Answered 1 (number_of w) (one_value w) answer answerAfter r → ConvertEntry to table buffer answer bufferAfter' answerAfter r
  convert-done h w after answerAfter r c a = record {
    answers = subst (λ (x : Written). Answered 1 (number_of x) (one_value x) answer answerAfter r) c.answers a;
    leaves = c.leaves ∙ ap (λ (x : Written). buffer_after x (rows_in to table) buffer) c.answers ∙ sym (when_no buffer (buffer_after converted (rows_in to table) buffer) (le-ltb (length answer) 4 h));
  }
