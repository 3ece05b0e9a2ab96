-- Each way the entry ends, by its law.
use mathlib.Core.Path.{ap, sym, subst, ◌∙◌}
use mathlib.Core.List.{List}
use Prim.Native.Nat.{ℕ}
use lib.ListN.{length}
use borrow.Author.Tests.{lt-ltb, le-ltb}
use Rattle.search.proofs.Choice.{when_yes, when_no}
use Rattle.std.specs.declared.result.Result.{Result}
use Rattle.table.specs.Refusal.{number_of, one_value}
use Rattle.table.specs.declared.refusal.Refusal.{Refusal}
use Rattle.merging.specs.Versions.{Versions}
use Rattle.merging.specs.Merge.{Answer, as_refused, result_of, merged_of, buffer_after, versions}
use Rattle.editor.specs.Entry.{Answered}
use Rattle.editor.proofs.Writing.{answered-short}
use Rattle.editor.proofs.mishtodran_merge.Goals as goal
use Rattle.editor.proofs.mishtodran_merge.Goals.{Start}

-- the three tables
abbrev of : (c : Start) → Versions
of c = versions c.args.ancestor c.args.first c.args.second

pub returns-then-answer-lt4 : goal.returns-then-answer-lt4
returns-then-answer-lt4 c = let a = c.args in
    let v = of (goal.at.returns-then-answer-lt4 c).Start in
    let table : List ℕ = a.buffer.now in
    let merged = merged_of (length table) v in
    let later = buffer_after merged (result_of v) table in
    record {
      answers = answered-short 1 (number_of (as_refused merged)) (one_value (as_refused merged)) a.answer.now c.if-answer-lt4.true c.number.ensures;
      leaves = sym (when_yes table later (lt-ltb _ _ c.if-answer-lt4.true));
    }

pub returns : goal.returns
returns c = let a = c.args in
    let v = of (goal.at.returns c).Start in
    let table : List ℕ = a.buffer.now in
    let merged = merged_of (length table) v in
    let later = buffer_after merged (result_of v) table in
    let merge = c.merge-merged.ensures in
    let e = c.as_refused.ensures ∙ ap as_refused merge.answers in
    record {
      answers = subst (λ (x : Result ℕ Refusal). Answered 1 (number_of x) (one_value x) a.answer.now c.put_figure.new.answer c.put_figure.result) e c.put_figure.ensures;
      leaves = merge.leaves ∙ ap (λ (x : Answer). buffer_after x (result_of v) table) merge.answers ∙ sym (when_no table later (le-ltb _ _ c.if-answer-lt4.false));
    }
