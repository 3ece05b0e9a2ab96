-- What the bytes of a record make is the same wherever they stand. Assumes nothing.
use Prim.Native.Nat.{ℕ, zero, suc, ◌+◌, ◌*◌, ◌<◌, ◌≤◌}
use native.Mathlib.Omega.{arith}
use mathlib.Core.Path.{◌≡◌, refl, sym, ◌∙◌}
use mathlib.Core.List.{List}
use mathlib.Core.Bool.{Bool, true, false}
use lib.ListN.{get_or}
use lib.Dec.{eqb}
use lib.Seq.{ext_get_or}
use borrow.Author.Tests.{eqb-false}
use Rattle.search.specs.Choice.{◌when◌else◌}
use Rattle.table.specs.Bytes.{word}
use Rattle.table.specs.Record.{largest_form, form_at, id_at, kind_at, overload_at, deadline_at, gap_place, gap_at, flag_at, gap_width, head_length, listed_at, tasks_at, known_at, largest_place, first_task, length_at, priority_at, cost_at, distances_at, largests_at, priorities_at, costs_at, spaced, row_at}
use Rattle.table.proofs.Lists.{length-spaced, spaced-at}
use Rattle.table.proofs.Forms.{wide}

-- numbers read one every so many bytes, from two places that give the same ones
pub spaced-moved : (f g : ℕ → ℕ) (step n at to : ℕ) → ((j : ℕ) → j < n → f (at + step * j) ≡ g (to + step * j)) → spaced f step n at ≡ spaced g step n to
spaced-moved f g step n at to e =
    let a = length-spaced f step n at in
    ext_get_or 0 (spaced f step n at) (spaced g step n to) (a ∙ sym (length-spaced g step n to))
    (λ j h. let l : j < n = omega (arith, h, a) in spaced-at f step n j at l ∙ e j l ∙ sym (spaced-at g step n j to l))

module _ (s r : List ℕ) where
  -- the n bytes of s from `at` on are those of r from `to` on
  unfoldable pub SameBytes : ℕ → ℕ → ℕ → Type 0
  SameBytes at to n = (i : ℕ) → i < n → get_or s (at + i) 0 ≡ get_or r (to + i) 0

  part : (at to n : ℕ) → SameBytes at to n → (o m : ℕ) → o + m ≤ n → SameBytes (at + o) (to + o) m
  unfolding SameBytes
  part at to n h o m l i j =
      let e : at + o + i ≡ at + (o + i) = omega arith in
      let f : to + o + i ≡ to + (o + i) = omega arith in
      rw (e, f) (h (o + i) (omega arith))

  pub word_moved : (n at to : ℕ) → SameBytes at to n → word n s at ≡ word n r to
  unfolding word SameBytes
  word_moved zero at to h = refl
  word_moved (suc n) at to h =
      let e : at + 0 ≡ at = omega arith in
      let f : to + 0 ≡ to = omega arith in
      let first : get_or s at 0 ≡ get_or r to 0 = rw (e, f) at (h 0 (omega arith)) in
      let rest = word_moved n (at + 1) (to + 1) (part at to (suc n) h 1 n (omega arith)) in
      rw (first, rest)

  -- a record of the length that its form, flag and counts say
  module _ (at to : ℕ) (h : SameBytes at to (length_at r to)) where
    -- where its tasks start, from its first byte
    abbrev tasks-from : ℕ
    tasks-from = head_length (form_at r to) + 4 * listed_at r to + 4 * known_at r to

    -- a number within the record
    within : (n o p q : ℕ) → p ≡ at + o → q ≡ to + o → o + n ≤ length_at r to → word n s p ≡ word n r q
    within n o p q e f l = rw (e, f) (word_moved n (at + o) (to + o) (part at to (length_at r to) h o n l))

    pub mark-moved : word 2 s at ≡ word 2 r to
    mark-moved = within 2 0 at to (omega arith) (omega arith) (omega arith)

    pub id-moved : id_at s at ≡ id_at r to
    id-moved = within 2 2 (at + 2) (to + 2) refl refl (omega arith)

    -- the gap, which is there in the form that has one, and the flag
    gap-moved : gap_at s at ≡ gap_at r to
    unfolding gap_at ◌when◌else◌
    gap-moved = rw mark-moved (by (eqb (form_at r to) largest_form) refl)
      where
        by : (b : Bool) → eqb (form_at r to) largest_form ≡ b → (0 when b else word 4 s (gap_place at)) ≡ (0 when b else word 4 r (gap_place to))
        by true e = refl
        by false e = within 4 10 (at + 10) (to + 10) refl refl (omega (arith, wide (form_at r to) (eqb-false _ _ e)))

    flag-moved : flag_at s at ≡ flag_at r to
    unfolding flag_at SameBytes
    flag-moved = rw (mark-moved, h 10 (omega arith))

    listed-moved : listed_at s at ≡ listed_at r to
    unfolding SameBytes
    listed-moved = rw mark-moved (h (10 + gap_width (form_at r to)) (omega arith))

    pub tasks-moved : tasks_at s at ≡ tasks_at r to
    unfolding SameBytes
    tasks-moved = rw mark-moved (h (11 + gap_width (form_at r to)) (omega arith))

    known-moved : known_at s at ≡ known_at r to
    known-moved = rw (flag-moved, listed-moved, mark-moved)

    pub length_moved : length_at s at ≡ length_at r to
    length_moved = rw (flag-moved, listed-moved, tasks-moved, mark-moved)

    -- where its tasks start
    tasks-start : first_task s at ≡ at + tasks-from
    tasks-start = rw (known-moved, listed-moved, mark-moved) (omega arith)

    -- the mark of a task
    pub task-mark-moved : (i : ℕ) → i < tasks_at r to → word 2 s (first_task s at + 8 * i) ≡ word 2 r (first_task r to + 8 * i)
    task-mark-moved i l = within 2 (tasks-from + 8 * i) _ _ (omega (arith, tasks-start)) (omega arith) (omega arith)

    -- n distances, from so many bytes on
    words_moved : (n o : ℕ) → o + 4 * n ≤ length_at r to → spaced (word 4 s) 4 n (at + o) ≡ spaced (word 4 r) 4 n (to + o)
    words_moved n o m = spaced-moved (word 4 s) (word 4 r) 4 n (at + o) (to + o) (λ j l. within 4 (o + 4 * j) (at + o + 4 * j) (to + o + 4 * j) (omega arith) (omega arith) (omega arith))

    distances-moved : distances_at s at ≡ distances_at r to
    distances-moved = rw (listed-moved, mark-moved) (words_moved (listed_at r to) (head_length (form_at r to)) (omega arith))

    largests-moved : largests_at s at ≡ largests_at r to
    largests-moved =
        let e : largest_place s at ≡ at + (head_length (form_at r to) + 4 * listed_at r to) = rw (listed-moved, mark-moved) (omega arith) in
        let f : largest_place r to ≡ to + (head_length (form_at r to) + 4 * listed_at r to) = omega arith in
        rw (known-moved, e, f) (words_moved (known_at r to) (head_length (form_at r to) + 4 * listed_at r to) (omega arith))

    -- one number of each task
    of_tasks : (f g : ℕ → ℕ) → ((p q j : ℕ) → j < tasks_at r to → p ≡ at + (tasks-from + 8 * j) → q ≡ to + (tasks-from + 8 * j) → f p ≡ g q)
        → spaced f 8 (tasks_at s at) (first_task s at) ≡ spaced g 8 (tasks_at r to) (first_task r to)
    of_tasks f g e = rw tasks-moved (spaced-moved f g 8 (tasks_at r to) (first_task s at) (first_task r to) (λ j l. e _ _ j l (omega (arith, tasks-start)) (omega arith)))

    priorities-moved : priorities_at s at ≡ priorities_at r to
    priorities-moved = of_tasks (priority_at s) (priority_at r) (λ p q j l e f. within 2 (tasks-from + 8 * j + 2) (p + 2) (q + 2) (omega arith) (omega arith) (omega arith))

    costs-moved : costs_at s at ≡ costs_at r to
    costs-moved = of_tasks (cost_at s) (cost_at r) (λ p q j l e f. within 4 (tasks-from + 8 * j + 4) (p + 4) (q + 4) (omega arith) (omega arith) (omega arith))

    pub row_moved : row_at s at ≡ row_at r to
    unfolding row_at SameBytes
    row_moved =
        let kind : kind_at s at ≡ kind_at r to = h 4 (omega arith) in
        let overload : overload_at s at ≡ overload_at r to = h 5 (omega arith) in
        let deadline : deadline_at s at ≡ deadline_at r to = within 4 6 (at + 6) (to + 6) refl refl (omega arith) in
        cc (mark-moved, id-moved, flag-moved, gap-moved, listed-moved, tasks-moved, distances-moved, largests-moved, priorities-moved, costs-moved)
