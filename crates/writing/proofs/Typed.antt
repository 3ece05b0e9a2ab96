-- The rows of an accepted table are of their fields' widths, and have 0 wherever nothing counts. Assumes nothing.
use Prim.Native.Nat.{ℕ, ◌+◌, ◌-◌, ◌<◌, ◌≤◌}
use native.Mathlib.Omega.{arith}
use mathlib.Core.Path.{◌≡◌, sym, ◌∙◌}
use mathlib.Core.List.{List}
use mathlib.Core.Logic.{⊎_elim}
use lib.ListN.{length, get_or, take, replicate, length-append, length-replicate, get_or-eq_default}
use lib.Seq.{ext_get_or, get_or-take, length-take-le}
use borrow.Author.Tests.{eq-eqb, ne_eqb}
use Rattle.search.proofs.Choice.{when_yes, when_no, lt_or_le}
use Rattle.table.specs.Limits.{max_distances, max_tasks}
use Rattle.table.specs.Bytes.{word, Bytes}
use Rattle.table.specs.Record.{largest_form, form_at, flag_at, listed_at, tasks_at, list_place, known_at, largest_place, first_task, distances_at, largests_at, priority_at, cost_at, priorities_at, costs_at, spaced, pad, row_at, known_of}
use Rattle.table.specs.Code.Good.{GoodRow}
use Rattle.table.specs.declared.Row.{Row}
use Rattle.table.proofs.Words.{word_below}
use Rattle.table.proofs.Lists.{length-spaced, spaced-at}
use Rattle.table.proofs.Goods.{pad-at}
use Rattle.table.proofs.Widths.{known-most}
use Rattle.writing.specs.Rows.{gap_of, flag_of, cleared, Typed}

-- a list with all its places, filled up with 0
pub pad-long : (m : ℕ) (l : List ℕ) → length l ≤ m → length (pad m l) ≡ m
pad-long m l h = length-append l (replicate (m - length l) 0) ∙ omega (arith, length-replicate {A = ℕ} (m - length l) 0)

-- 0 past n: the first n and 0s are the list again
pad-first : (m n : ℕ) (l : List ℕ) → length l ≡ m → n ≤ m → ((j : ℕ) → n ≤ j → get_or l j 0 ≡ 0) → pad m (take n l) ≡ l
pad-first m n l long few past =
    let t : length (take n l) ≡ n = length-take-le n l (omega arith) in
    ext_get_or 0 (pad m (take n l)) l (pad-long m (take n l) (omega (arith, t)) ∙ sym long)
    (λ j h. pad-at m (take n l) j ∙ ⊎_elim (λ k. get_or-take n l j 0 k) (λ k. get_or-eq_default (take n l) 0 {n = j} (omega (arith, t)) ∙ sym (past j k)) (lt_or_le j n))

-- what its form lacks is 0 in a good row
module _ {r : Row} (good : GoodRow r) where
  gap-own : gap_of r.form r.gap ≡ r.gap
  unfolding gap_of
  gap-own = ⊎_elim (λ f. when_no _ _ (ne_eqb r.form largest_form (λ e. omega (arith, e, f)))) (λ f. when_yes _ _ (eq-eqb r.form largest_form f) ∙ sym (good.gap_form_holds f)) good.form

  flag-own : flag_of r.form r.flag ≡ r.flag
  unfolding flag_of
  flag-own = ⊎_elim (λ f. when_no _ _ (ne_eqb r.form largest_form (λ e. omega (arith, e, f))) ∙ sym (good.flag_form f)) (λ f. when_yes _ _ (eq-eqb r.form largest_form f)) good.form

  pub listed-few : r.listed ≤ max_distances
  listed-few = omega (arith, good.listed, good.list.few)

  pub cleared-good : Typed r → cleared r ≡ r
  cleared-good t =
      rw (
        gap-own,
        flag-own,
        pad-first max_distances r.listed r.list t.list_places listed-few good.list_past,
        pad-first max_distances (known_of r) r.largest t.largest_places (omega (arith, listed-few, known-most r.form r.flag r.listed)) good.largest_past,
        pad-first max_tasks r.tasks r.priority t.priority_places good.tasks.few good.tasks.priorities_past,
        pad-first max_tasks r.tasks r.cost t.cost_places good.tasks.few good.tasks.costs_past,
      )

-- the numbers of a list that is read, each of its width
spaced-below : (f : ℕ → ℕ) (step n at most m : ℕ) → 0 < most → ((p : ℕ) → f p < most) → (j : ℕ) → get_or (pad m (spaced f step n at)) j 0 < most
spaced-below f step n at most m some each j =
    rw (pad-at m (spaced f step n at) j) (⊎_elim (λ h. rw (spaced-at f step n j at h) (each _))
    (λ h. rw (get_or-eq_default (spaced f step n at) 0 {n = j} (omega (arith, length-spaced f step n at))) some) (lt_or_le j n))

-- a record that makes a good row makes one of these widths
pub row_typed : (s : List ℕ) (at : ℕ) → Bytes s → GoodRow (row_at s at) → Typed (row_at s at)
unfolding row_at
row_typed s at bytes good = record {
  form = word_below 2 s at bytes;
  id = word_below 2 s (at + 2) bytes;
  kind = bytes _;
  overload = bytes _;
  flag = omega (arith, good.flag);
  deadline = word_below 4 s (at + 6) bytes;
  gap = omega (arith, good.gap_max);
  list = spaced-below (word 4 s) 4 (listed_at s at) (list_place s at) _ max_distances (omega arith) (λ p. word_below 4 s p bytes);
  largest = spaced-below (word 4 s) 4 (known_at s at) (largest_place s at) _ max_distances (omega arith) (λ p. word_below 4 s p bytes);
  priority = spaced-below (priority_at s) 8 (tasks_at s at) (first_task s at) _ max_tasks (omega arith) (λ p. word_below 2 s (p + 2) bytes);
  cost = spaced-below (cost_at s) 8 (tasks_at s at) (first_task s at) _ max_tasks (omega arith) (λ p. word_below 4 s (p + 4) bytes);
  list_places = pad-long max_distances (distances_at s at) (omega (arith, length-spaced (word 4 s) 4 (listed_at s at) (list_place s at), listed-few good));
  largest_places = pad-long max_distances (largests_at s at) (omega (arith, length-spaced (word 4 s) 4 (known_at s at) (largest_place s at), listed-few good, known-most (form_at s at) (flag_at s at) (listed_at s at)));
  priority_places = pad-long max_tasks (priorities_at s at) (omega (arith, length-spaced (priority_at s) 8 (tasks_at s at) (first_task s at), good.tasks.few));
  cost_places = pad-long max_tasks (costs_at s at) (omega (arith, length-spaced (cost_at s) 8 (tasks_at s at) (first_task s at), good.tasks.few));
}
