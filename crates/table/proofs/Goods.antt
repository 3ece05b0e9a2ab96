-- A record without a fault makes a good row. Assumes nothing.
use Prim.Native.Nat.{ℕ, zero, suc, max, ◌+◌, ◌*◌, ◌-◌, ◌<◌, ◌≤◌}
use native.Mathlib.Omega.{arith}
use mathlib.Core.Path.{◌≡◌, refl, ap, sym, ◌∙◌}
use mathlib.Core.List.{List, [], ◌∷◌, ◌++◌}
use mathlib.Core.Bool.{Bool, false, not, ◌&&◌}
use mathlib.Core.Logic.{⊎_elim}
use lib.ListN.{length, get_or, take, replicate, get_or-eq_default}
use lib.Seq.{take-append_seam}
use lib.Dec.{eqb, ltb}
use borrow.Author.Tests.{ltb-false, ne_eqb}
use Rattle.search.proofs.Choice.{lt_or_le}
use Rattle.table.specs.Limits.{max_distances, max_tasks, max_distance, max_largest, max_cost, max_priority}
use Rattle.table.specs.Bytes.{word, Bytes}
use Rattle.table.specs.Record.{form_at, gap_place, gap_at, flag_at, listed_at, tasks_at, list_place, known_at, largest_place, first_task, priority_at, cost_at, distances_at, largests_at, priorities_at, costs_at, pad, row_at, distances, largests}
use Rattle.table.specs.Fault.{mark_of, fall_fault, last_fault, gap_short, gap_fault, short_fault, chain_fault}
use Rattle.table.specs.Code.Good.{GoodDistances, GoodLargests, GoodTasks, GoodRow}
use Rattle.table.specs.declared.Table.{Table}
use Rattle.table.specs.declared.Mark.TheVariants.{Chain}
use Rattle.std.specs.declared.result.Result.TheVariants.{Ok, Err}
use Rattle.table.proofs.Words.{word_below}
use Rattle.table.proofs.Lists.{length-spaced, spaced-at}
use Rattle.table.proofs.Firsts.{none_or, when_none}
use Rattle.table.proofs.Widths.{known-most, gap-lacks, flag-lacks}
use Rattle.table.proofs.Marks.{chain-form}
use Rattle.table.proofs.Faultless.{inside, not-zero, ChainRight, chain-right}

-- the 0s past a count change nothing that is read
pub zeros : (n i : ℕ) → ◌≡◌ {A = ℕ} (get_or (replicate n 0) i 0) 0
zeros zero i = refl
zeros (suc n) zero = refl
zeros (suc n) (suc i) = zeros n i

after : (l : List ℕ) (n i : ℕ) → get_or (l ++ replicate n 0) i 0 ≡ get_or l i 0
after [] n i = zeros n i
after (a ∷ l) n zero = refl
after (a ∷ l) n (suc i) = after l n i

pub pad-at : (m : ℕ) (l : List ℕ) (i : ℕ) → get_or (pad m l) i 0 ≡ get_or l i 0
pad-at m l i = after l (m - length l) i

-- a bound on each of the numbers listed bounds every place
each : (P : ℕ → Type 0) (l : List ℕ) → P 0 → ((i : ℕ) → i < length l → P (get_or l i 0)) → (i : ℕ) → P (get_or l i 0)
each P l z f i = ⊎_elim (λ h. f i h) (λ h. rw (get_or-eq_default l 0 {n = i} h) z) (lt_or_le i (length l))

-- the list
module _ where
  rises : (before : ℕ) (ds : List ℕ) (at : ℕ) → fall_fault before ds at ≡ Ok tt → (j : ℕ) → j + 1 < length ds → get_or ds j 0 ≤ get_or ds (j + 1) 0
  unfolding fall_fault
  rises before [] at e j h = absurd (omega arith)
  rises before (d ∷ []) at e j h = absurd (omega arith)
  rises before (d ∷ f ∷ ds) at e zero h =
      let g = when_none _ _ _ _ e in
      (inside d max_distance f (when_none _ _ _ _ g.1).0).0
  rises before (d ∷ f ∷ ds) at e (suc j) h =
      let g : suc j + 1 ≡ suc (j + 1) = omega arith in
      rw g (rises d (f ∷ ds) (at + 4) (when_none _ _ _ _ e).1 j (omega arith))

  near : (before : ℕ) (ds : List ℕ) (at : ℕ) → fall_fault before ds at ≡ Ok tt → (j : ℕ) → get_or ds j 0 ≤ max_distance
  unfolding fall_fault
  near before [] at e j = omega arith
  near before (d ∷ ds) at e zero = (inside before max_distance d (when_none _ _ _ _ e).0).1
  near before (d ∷ ds) at e (suc j) = near d ds (at + 4) (when_none _ _ _ _ e).1 j

  gaps : (gap n : ℕ) (ds : List ℕ) → gap_short gap n ds ≡ false → (j : ℕ) → j < length ds → get_or ds j 0 ≤ gap * (n + j)
  unfolding gap_short
  gaps gap n [] e j h = absurd (omega arith)
  gaps gap n (d ∷ ds) e zero h =
      let f : n + 0 ≡ n = omega arith in
      rw f (ltb-false (gap * n) d (none_or (ltb (gap * n) d) _ e).0)
  gaps gap n (d ∷ ds) e (suc j) h =
      let f : n + 1 + j ≡ n + suc j = omega arith in
      rw (← f) (gaps gap (n + 1) ds (none_or (ltb (gap * n) d) _ e).1 j (omega arith))

  if_known : (b : Bool) (c : Bool) → b ≡ false → (not b && c) ≡ false → c ≡ false
  if_known b c e f = rw e at f

  pub distances-good : (ds : List ℕ) (at : ℕ) → 1 ≤ length ds → length ds ≤ max_distances → fall_fault 0 ds at ≡ Ok tt → last_fault ds at ≡ Ok tt → GoodDistances ds
  unfolding last_fault
  distances-good ds at some few e29 e30 =
      record { some = some; few = few; rises = rises 0 ds at e29; near = near 0 ds at e29; ends = not-zero _ (when_none _ _ _ _ e30).0 }

  pub gap-good : (gap : ℕ) (ds : List ℕ) (place : ℕ) → gap_fault gap ds place ≡ Ok tt → 0 < gap → (j : ℕ) → j < length ds → get_or ds j 0 ≤ gap * (j + 1)
  unfolding gap_fault
  gap-good gap ds place e g j h =
      let f = gaps gap 1 ds (if_known (eqb gap 0) (gap_short gap 1 ds) (ne_eqb gap 0 (λ z. omega arith)) (when_none _ _ _ _ e).0) j h in
      omega (arith, f)

-- the largest distances beside the smallest
module _ where
  long-rises : (before : ℕ) (ds ls : List ℕ) (at : ℕ) → length ls ≤ length ds → short_fault before ds ls at ≡ Ok tt → (j : ℕ) → j + 1 < length ls → get_or ls j 0 ≤ get_or ls (j + 1) 0
  unfolding short_fault
  long-rises before ds [] at n e j h = absurd (omega arith)
  long-rises before [] (l ∷ ls) at n e j h = absurd (omega arith)
  long-rises before (d ∷ ds) (l ∷ []) at n e j h = absurd (omega arith)
  long-rises before (d ∷ []) (l ∷ m ∷ ls) at n e j h = absurd (omega arith)
  long-rises before (d ∷ f ∷ ds) (l ∷ m ∷ ls) at n e zero h =
      let g = when_none _ _ _ _ e in
      omega (arith, (inside (max l f) max_largest m (when_none _ _ _ _ g.1).0).0)
  long-rises before (d ∷ f ∷ ds) (l ∷ m ∷ ls) at n e (suc j) h =
      let g : suc j + 1 ≡ suc (j + 1) = omega arith in
      rw g (long-rises l (f ∷ ds) (m ∷ ls) (at + 4) (omega arith) (when_none _ _ _ _ e).1 j (omega arith))

  long-near : (before : ℕ) (ds ls : List ℕ) (at : ℕ) → length ls ≤ length ds → short_fault before ds ls at ≡ Ok tt → (j : ℕ) → get_or ls j 0 ≤ max_largest
  unfolding short_fault
  long-near before ds [] at n e j = omega arith
  long-near before [] (l ∷ ls) at n e j = absurd (omega arith)
  long-near before (d ∷ ds) (l ∷ ls) at n e zero = (inside (max before d) max_largest l (when_none _ _ _ _ e).0).1
  long-near before (d ∷ ds) (l ∷ ls) at n e (suc j) = long-near l ds ls (at + 4) (omega arith) (when_none _ _ _ _ e).1 j

  long-above : (before : ℕ) (ds ls : List ℕ) (at : ℕ) → length ls ≤ length ds → short_fault before ds ls at ≡ Ok tt → (j : ℕ) → j < length ls → get_or ds j 0 ≤ get_or ls j 0
  unfolding short_fault
  long-above before ds [] at n e j h = absurd (omega arith)
  long-above before [] (l ∷ ls) at n e j h = absurd (omega arith)
  long-above before (d ∷ ds) (l ∷ ls) at n e zero h = omega (arith, (inside (max before d) max_largest l (when_none _ _ _ _ e).0).0)
  long-above before (d ∷ ds) (l ∷ ls) at n e (suc j) h = long-above l ds ls (at + 4) (omega arith) (when_none _ _ _ _ e).1 j (omega arith)

  pub largests-good : (ds ls : List ℕ) (at : ℕ) → length ls ≤ length ds → short_fault 0 ds ls at ≡ Ok tt → GoodLargests ds ls
  largests-good ds ls at n e = record { rises = long-rises 0 ds ls at n e; near = long-near 0 ds ls at n e; above = long-above 0 ds ls at n e }

-- the tasks
pub tasks-good : (s : List ℕ) (at : ℕ) (t : Table) → Bytes s → ChainRight s at t
    → GoodTasks (pad max_tasks (priorities_at s at)) (pad max_tasks (costs_at s at)) (tasks_at s at)
tasks-good s at t bytes r = record {
  some = r.head.tasks.0;
  few = r.head.tasks.1;
  priorities = λ i h. rw (pad-at, p-at i h) (r.tasks i h).priority;
  priorities_max = λ i. rw pad-at (each (λ x. x ≤ max_priority) ps (omega arith) (λ j h. rw (p-at j (omega (arith, np))) (omega (arith, word_below 2 s (first_task s at + 8 * j + 2) bytes))) i);
  costs = λ i h. rw (pad-at, c-at i h) (r.tasks i h).cost.0;
  costs_max = λ i. rw pad-at (each (λ x. x ≤ max_cost) cs (omega arith) (λ j h. rw (c-at j (omega (arith, nc))) (r.tasks j (omega (arith, nc))).cost.1) i);
  priorities_past = λ i h. rw pad-at (get_or-eq_default ps 0 (omega (arith, np)));
  costs_past = λ i h. rw pad-at (get_or-eq_default cs 0 (omega (arith, nc)));
}
  where
    ps : List ℕ
    ps = priorities_at s at

    cs : List ℕ
    cs = costs_at s at

    np : length ps ≡ tasks_at s at
    np = length-spaced (priority_at s) 8 (tasks_at s at) (first_task s at)

    nc : length cs ≡ tasks_at s at
    nc = length-spaced (cost_at s) 8 (tasks_at s at) (first_task s at)

    p-at : (i : ℕ) → i < tasks_at s at → get_or ps i 0 ≡ priority_at s (first_task s at + 8 * i)
    p-at i h = spaced-at (priority_at s) 8 (tasks_at s at) i (first_task s at) h

    c-at : (i : ℕ) → i < tasks_at s at → get_or cs i 0 ≡ cost_at s (first_task s at + 8 * i)
    c-at i h = spaced-at (cost_at s) 8 (tasks_at s at) i (first_task s at) h

-- the distances listed are those of the bytes, and so are the largest
pub distances-read : (s : List ℕ) (at : ℕ) → distances (row_at s at) ≡ distances_at s at
unfolding row_at
distances-read s at =
    let n = length-spaced (word 4 s) 4 (listed_at s at) (list_place s at) in
    ap (λ m. take m (pad max_distances (distances_at s at))) (sym n) ∙ take-append_seam (distances_at s at) _

pub largests-read : (s : List ℕ) (at : ℕ) → largests (row_at s at) ≡ largests_at s at
unfolding row_at
largests-read s at =
    let n = length-spaced (word 4 s) 4 (known_at s at) (largest_place s at) in
    ap (λ m. take m (pad max_distances (largests_at s at))) (sym n) ∙ take-append_seam (largests_at s at) _

pub row-good : (s : List ℕ) (at : ℕ) (t : Table) → Bytes s → mark_of (word 2 s at) ≡ Chain → chain_fault s at t ≡ Ok tt → GoodRow (row_at s at)
unfolding row_at
row-good s at t bytes mark e =
    let r = chain-right s at t e in
    let n = length-spaced (word 4 s) 4 (listed_at s at) (list_place s at) in
    let m = length-spaced (word 4 s) 4 (known_at s at) (largest_place s at) in
    let read = distances-read s at in
    let long = largests-read s at in
    record {
      form = chain-form (word 2 s at) mark;
      id = r.head.id;
      kind = r.head.kind;
      overload = r.head.overload;
      deadline = r.head.deadline.0;
      deadline_max = r.head.deadline.1;
      gap_max = r.head.gap;
      gap_form_holds = gap-lacks s at;
      flag = r.largest.flag;
      flag_form = flag-lacks s at;
      list = rw read (distances-good (distances_at s at) (list_place s at) (omega (arith, r.head.listed.0, n)) (omega (arith, r.head.listed.1, n)) r.list.rises r.list.ends);
      listed = rw read n;
      list_past = λ j h. rw pad-at (get_or-eq_default (distances_at s at) 0 (omega (arith, n)));
      gaps = λ g j h. rw read (gap-good (gap_at s at) (distances_at s at) (gap_place at) r.list.gap g j (omega (arith, n)));
      largest = rw (read, long) (largests-good (distances_at s at) (largests_at s at) (largest_place s at) (omega (arith, n, m, known-most (form_at s at) (flag_at s at) (listed_at s at))) r.largest.long);
      largest_listed = rw long m;
      largest_past = λ j h. rw pad-at (get_or-eq_default (largests_at s at) 0 (omega (arith, m)));
      tasks = tasks-good s at t bytes r;
    }
