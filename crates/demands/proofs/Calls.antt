-- Two calls of a C entry on equally long answer buffers. Assumes nothing.
use Prim.Native.Nat.{ℕ, zero, suc, ◌*◌}
use mathlib.Core.Path.{◌≡◌, refl, ap, sym, ◌∙◌}
use mathlib.Core.List.{List}
use mathlib.Core.Logic.{⊎_elim}
use native.Mathlib.Omega.{arith}
use lib.Dec.{ltb}
use lib.ListN.{length, take, drop}
use lib.Seq.{take_at, drop_at}
use borrow.Author.Tests.{lt-ltb, le-ltb}
use Rattle.search.specs.Choice.{◌when◌else◌}
use Rattle.search.proofs.Choice.{when_yes, when_no, lt_or_le}
use Rattle.editor.specs.Entry.{figure_bytes, starting_with, returned, left_by, Answered, LatencyEntry, MissesEntry}
use Rattle.editor.proofs.Writing.{length-figures}
use Rattle.demands.specs.Entries.{OneAnswer}
use Rattle.demands.specs.Others.{Unmoved, SameCall}
use Rattle.misses.specs.Bad.{by_windows}
use Rattle.demands.proofs.Answers.{latency-one, tested-one}

-- what was written: the figures, and the rest as it was
module _ (n : ℕ) (figures before : List ℕ) (long : length figures ≡ n) where
  bytes : length (figure_bytes figures) ≡ 4 * n
  bytes = length-figures figures ∙ ap (λ k. 4 * k) long

  written-figures : take (4 * n) (starting_with (figure_bytes figures) before) ≡ figure_bytes figures
  written-figures = take_at (figure_bytes figures) (drop (length (figure_bytes figures)) before) (4 * n) bytes

  written-rest : drop (4 * n) (starting_with (figure_bytes figures) before) ≡ drop (4 * n) before
  written-rest = drop_at (figure_bytes figures) (drop (length (figure_bytes figures)) before) (4 * n) bytes ∙ ap (λ k. drop k before) bytes

-- a call that returns 0 had room, and its answer's number is 0
zero_number : (n number : ℕ) (before : List ℕ) → returned n number before ≡ 0 → number ≡ 0
zero_number n number before e = ⊎_elim
    (λ h. absurd (omega (arith, e, when_yes 27 number (lt-ltb (length before) (4 * n) h))))
    (λ h. sym (when_no 27 number (le-ltb (length before) (4 * n) h)) ∙ e)
    (lt_or_le (length before) (4 * n))

-- one answer, two calls
same_call : {Refusal : ℕ → Type 0} {n number : ℕ} {figures before after before' after' : List ℕ} {r q : ℕ} → OneAnswer Refusal n number figures → length before ≡ length before'
    → Answered n number figures before after r → Answered n number figures before' after' q → SameCall n before after r before' after' q
same_call {Refusal} {n} {number} {figures} {before} {after} {before'} {after'} {r} {q} one long x y = record {
  number = same;
  figures = λ e. ap (take (4 * n)) (held x e) ∙ written-figures n figures before (full e) ∙ sym (written-figures n figures before' (full e)) ∙ ap (take (4 * n)) (sym (held y (sym same ∙ e)));
  rest = λ e. (ap (drop (4 * n)) (held x e) ∙ written-rest n figures before (full e), ap (drop (4 * n)) (held y (sym same ∙ e)) ∙ written-rest n figures before' (full e));
  refused = λ h. (left x h, left y (λ e. h (same ∙ e)));
}
  where
    same : r ≡ q
    same = x.returns ∙ ap (λ k. 27 when ltb k (4 * n) else number) long ∙ sym y.returns

    full : r ≡ 0 → length figures ≡ n
    full e = one.answered (zero_number n number before (sym x.returns ∙ e))

    held : {before after : List ℕ} {r : ℕ} → Answered n number figures before after r → r ≡ 0 → after ≡ starting_with (figure_bytes figures) before
    held {before} {after} {r} a e = a.leaves ∙ ap (λ k. left_by k (figure_bytes figures) before) e

    left : {before after : List ℕ} {r : ℕ} → Answered n number figures before after r → (r ≡ 0 → ⊥) → after ≡ before
    left {before} {after} {r} a h = a.leaves ∙ by r h
      where
        by : (k : ℕ) → (k ≡ 0 → ⊥) → left_by k (figure_bytes figures) before ≡ before
        by zero h = absurd (h refl)
        by (suc k) h = refl

-- wherever the answers for an id are unmoved, so are the calls of the latency entry and of the miss entry
module _ {s r : List ℕ} {id : ℕ} (h : Unmoved s r id) {before before' : List ℕ} (long : length before ≡ length before') {after after' : List ℕ} {n m : ℕ} where
  pub same-latency_call : LatencyEntry s id before after n → LatencyEntry r id before' after' m → SameCall 4 before after n before' after' m
  same-latency_call x y = same_call (latency-one s id) long x.answers (rw h.latency y.answers)

  pub same-misses_call : (k : ℕ) → MissesEntry s id k before after n → MissesEntry r id k before' after' m → SameCall 1 before after n before' after' m
  same-misses_call k x y = same_call (tested-one by_windows s id k) long x.answers (rw (h.misses k) y.answers)
