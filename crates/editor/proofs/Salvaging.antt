-- The two ways the salvage's entry ends. Assumes nothing.
use Prim.Native.Nat.{ℕ, ◌<◌, ◌≤◌}
use mathlib.Core.Path.{◌≡◌, ap, sym, subst, ◌∙◌}
use mathlib.Core.List.{List}
use lib.ListN.{length}
use borrow.Author.Tests.{lt-ltb, le-ltb}
use Rattle.search.proofs.Choice.{when_yes, when_no}
use Rattle.table.specs.Refusal.{number_of}
use Rattle.salvaging.specs.Salvage.{Answer, values_of, table_kept, list_skipped, salvaged_of, buffer_after, Salvages}
use Rattle.editor.specs.Entry.{Answered, SalvageEntry}
use Rattle.editor.proofs.Writing.{answered-short}

module _ (input table list answer : List ℕ) where
  abbrev salvaged : Answer
  salvaged = salvaged_of (length table) (length list) input

  pub salvage-short : length answer < 8 → {r : ℕ} → r ≡ 27 → SalvageEntry input table list answer table list answer r
  salvage-short h e = record {
    answers = answered-short 2 (number_of salvaged) (values_of salvaged) answer h e;
    leaves_table = sym (when_yes table (buffer_after salvaged (table_kept input) table) (lt-ltb (length answer) 8 h));
    leaves_list = sym (when_yes list (buffer_after salvaged (list_skipped input) list) (lt-ltb (length answer) 8 h));
  }

  pub salvage-done : 8 ≤ length answer → (a : Answer) (tableAfter listAfter answerAfter : List ℕ) (r : ℕ) → Salvages input table list a tableAfter listAfter
      → Answered 2 (number_of a) (values_of a) answer answerAfter r → SalvageEntry input table list answer tableAfter listAfter answerAfter r
  salvage-done h a tableAfter listAfter answerAfter r c e =
      let left : (result before : List ℕ) → buffer_after a result before ≡ buffer_after salvaged result before = λ result before. ap (λ (x : Answer). buffer_after x result before) c.answers in
      record {
        answers = subst (λ (x : Answer). Answered 2 (number_of x) (values_of x) answer answerAfter r) c.answers e;
        leaves_table = c.leaves_table ∙ left (table_kept input) table ∙ sym (when_no table (buffer_after salvaged (table_kept input) table) (le-ltb (length answer) 8 h));
        leaves_list = c.leaves_list ∙ left (list_skipped input) list ∙ sym (when_no list (buffer_after salvaged (list_skipped input) list) (le-ltb (length answer) 8 h));
      }
