-- A mark that is known is one number, a chain's one of two, and a task record that stands is its bytes. Assumes nothing.
use Prim.Native.Nat.{ℕ, ◌+◌, ◌<◌, ◌≤◌}
use native.Mathlib.Omega.{arith}
use mathlib.Core.Path.{◌≡◌, refl, ap, sym, ◌∙◌}
use mathlib.Core.Bool.{Bool, true, false, ◌||◌}
use mathlib.Core.Logic.{◌⊎◌, inl, inr, ⊎_elim}
use borrow.Author.Tests.{eqb-true}
use mathlib.Core.List.{List}
use lib.Dec.{eqb}
use lib.ListN.{length, take, drop}
use Rattle.search.specs.Choice.{◌when◌else◌}
use Rattle.search.proofs.Choice.{true-not-false}
use Rattle.table.specs.Bytes.{word, bytes_of, Bytes}
use Rattle.table.specs.Record.{gap_form, largest_form, task_mark, end_mark, task_record, priority_at, cost_at}
use Rattle.table.specs.Fault.{mark_of, is_chain, no_task}
use Rattle.std.specs.declared.result.Result.TheVariants.{Err}
use Rattle.table.specs.declared.refusal.Refusal.TheVariants.{BadMark}
use Rattle.table.specs.declared.Mark.{Mark}
use Rattle.table.specs.declared.Mark.TheVariants.{Chain, Task, End, Unknown}
use Rattle.table.proofs.Firsts.{or_cases}
use Rattle.table.proofs.Words.{word_back, take_next}

-- what is told to be a chain's is
pub chain-told : (m : Mark) → is_chain m ≡ true → m ≡ Chain
chain-told Chain e = refl
chain-told Task e = absurd (true-not-false e refl)
chain-told End e = absurd (true-not-false e refl)
chain-told Unknown e = absurd (true-not-false e refl)

-- a chain's mark is that of a form
pub chain-form : (w : ℕ) → mark_of w ≡ Chain → (w ≡ gap_form) ⊎ (w ≡ largest_form)
unfolding mark_of ◌when◌else◌
chain-form w e = by (eqb w 18499 || eqb w 18243) (eqb w 19284) (eqb w 20037) refl e
  where
    by : (a b c : Bool) → (eqb w 18499 || eqb w 18243) ≡ a → (Chain when a else Task when b else End when c else Unknown) ≡ Chain → (w ≡ gap_form) ⊎ (w ≡ largest_form)
    by true b c f e = ⊎_elim (λ g. inl (eqb-true w 18499 g)) (λ g. inr (eqb-true w 18243 g)) (or_cases (eqb w 18499) (eqb w 18243) f)
    by false true c f e = absurd (let z : ◌≡◌ {A = ℕ} 0 1 = cc in omega arith)
    by false false true f e = absurd (let z : ◌≡◌ {A = ℕ} 0 1 = cc in omega arith)
    by false false false f e = absurd (let z : ◌≡◌ {A = ℕ} 0 1 = cc in omega arith)

-- the number of each other one, 0 for none
abbrev pub mark_number : Mark → ℕ
mark_number Chain = 0
mark_number Task = task_mark
mark_number End = end_mark
mark_number Unknown = 0

pub mark-number : (w : ℕ) {m : Mark} → mark_of w ≡ m → 0 < mark_number m → w ≡ mark_number m
unfolding mark_of ◌when◌else◌
mark-number w e h = by (eqb w 18499 || eqb w 18243) (eqb w 19284) (eqb w 20037) refl refl e h
  where
    by : (a b c : Bool) → eqb w 19284 ≡ b → eqb w 20037 ≡ c → {m : Mark} → (Chain when a else Task when b else End when c else Unknown) ≡ m → 0 < mark_number m → w ≡ mark_number m
    by true b c g k e h = absurd (omega (arith, h, ap mark_number e))
    by false true c g k e h = eqb-true w 19284 g ∙ ap mark_number e
    by false false true g k e h = eqb-true w 20037 k ∙ ap mark_number e
    by false false false g k e h = absurd (omega (arith, h, ap mark_number e))

pub task-there : (s : List ℕ) (at : ℕ) → Bytes s → at + 8 ≤ length s → mark_of (word 2 s at) ≡ Task → take 8 (drop at s) ≡ task_record (priority_at s at) (cost_at s at)
task-there s at bytes h m =
    let mark : bytes_of 2 task_mark ≡ take 2 (drop at s) = ap (bytes_of 2) (sym (mark-number (word 2 s at) m (omega arith))) ∙ word_back 2 s at bytes (omega arith) in
    rw (mark, word_back 2 s (at + 2) bytes (omega arith), word_back 4 s (at + 4) bytes (omega arith)) (take_next s at 4 4 ∙ rw (take_next s at 2 2))

-- any other mark than a task's is a fault where a task's must stand
pub no_task-other : (m : Mark) (at : ℕ) → (m ≡ Task → ⊥) → no_task m at ≡ Err (BadMark, at)
no_task-other Task at h = absurd (h refl)
no_task-other Chain at h = refl
no_task-other End at h = refl
no_task-other Unknown at h = refl
