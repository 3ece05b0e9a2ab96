-- Every refusal points at the field that its number names, and what is known of its place and number for that. Assumes nothing.
use Prim.Native.Nat.{ℕ, zero, suc, max, ◌+◌, ◌*◌, ◌-◌, ◌<◌, ◌≤◌}
use native.Mathlib.Omega.{arith}
use native.Mathlib.Numerals.{add-one}
use mathlib.Core.Path.{◌≡◌, refl, ap, sym, subst, ◌∙◌}
use mathlib.Core.List.{List, [], ◌∷◌}
use mathlib.Core.Bool.{true, false, not, ◌&&◌, ◌||◌}
use mathlib.Core.Logic.{inl, inr, ⊎_elim}
use borrow.Author.Count.{below_more}
use borrow.Author.Tests.{ltb-true, ltb-false, eqb-true, eqb-false, not-true, not-false}
use lib.ListN.{length, get_or, length-set, length-replicate}
use lib.Dec.{eqb, ltb, lit≤}
use lib.Seq.{get_or-set_same, get_or-set_other}
use Rattle.search.proofs.Choice.{when_cases, true-not-false, both_true, lt_or_le}
use Rattle.search.proofs.Find.{first_hit}
use Rattle.table.specs.Limits.{max_chains, max_bytes, max_tasks, max_all_tasks, max_distance, max_largest}
use Rattle.table.specs.Bytes.{word}
use Rattle.table.specs.Record.{blank, form_at, id_at, gap_place, gap_at, flag_at, head_length, listed_at, tasks_at, list_place, distances_at, known_at, largest_place, largests_at, first_task, length_at, row_at}
use Rattle.table.specs.Find.{row_of, find_of, used}
use Rattle.table.specs.Fault.{◌then◌, outside, mark_of, no_task, identity_fault, times_fault, counts_fault, head_fault, fall_fault, last_fault, gap_short, gap_fault, distances_fault, list_fault, short_fault, largest_fault, task_mark_fault, values_fault, task_rest_fault, task_fault, tasks_fault, chain_fault, beside_fault, end_fault}
use Rattle.table.specs.Read.{empty, plus, refusal, accepted, unless, by_mark, start, records, limit_of, read_table}
use Rattle.table.specs.Field.{record_start, tasks_before, ChainMark, Chains, EndMark, EndRecord, ChainRecord, ListThere, LargestThere, task_place, TaskThere, before_of, FirstFall, Rises, Blames, TableRefusal, Placed}
use Rattle.table.specs.declared.Row.{Row}
use Rattle.table.specs.declared.Table.{Table}
use Rattle.table.specs.Read.{Reading}
use Rattle.table.specs.declared.Mark.{Mark}
use Rattle.table.specs.declared.Mark.TheVariants.{Chain, Task, End, Unknown}
use Rattle.table.specs.Refusal.{Verdict, numbered}
use Rattle.std.specs.declared.result.Result.TheVariants.{Ok, Err}
use Rattle.table.specs.declared.refusal.Fault.{Fault}
use Rattle.table.specs.declared.refusal.Refusal.{Refusal}
use Rattle.table.specs.declared.refusal.Refusal.TheVariants.{BadLength, BadDistance, BadChainCount}
use Rattle.table.proofs.Lists.{length-spaced}
use Rattle.table.proofs.Firsts.{or_right, or_cases, not-accepted, when_none}
use Rattle.table.proofs.Steps.{read-long}
use Rattle.table.proofs.Widths.{known-most, beyond-both}
use Rattle.table.proofs.Faultless.{head-right, list_right, largest-right, not-zero, BesideRight, beside-right}

-- a verdict that refuses points at such a field
abbrev Points : List ℕ → Verdict → Type 0
Points s (Ok u) = Unit {0}
Points s (Err f) = Blames s (numbered f.0) f.1

then_points : (s : List ℕ) (a b : Verdict) → Points s a → (a ≡ Ok tt → Points s b) → Points s (a then b)
unfolding ◌then◌
then_points s (Ok u) b p q = q refl
then_points s (Err f) b p q = p

-- what is known where the record after n chain records is looked at, the rows of these being those of t
record Walked (s : List ℕ) (n : ℕ) (t : Table) : Type 0 where
  chains : Chains s n
  count : t.count ≡ n
  ids : (m : ℕ) → m < n → (row_of t m).id ≡ id_at s (record_start s m)
  tasks : t.tasks ≡ tasks_before s n
  size : length t.row ≡ max_chains

-- the list
module _ (all : List ℕ) (from : ℕ) (P : Verdict → Type 0) (none : Rises all → P (Ok tt)) (found : (j : ℕ) → FirstFall all j → P (Err (BadDistance, from + 4 * j))) where
  fall_from : (ds : List ℕ) (j before at : ℕ) → at ≡ from + 4 * j → before ≡ before_of all j → j + length ds ≡ length all → ((i : ℕ) → get_or ds i 0 ≡ get_or all (j + i) 0)
      → ((i : ℕ) → i < j → outside (before_of all i) max_distance (get_or all i 0) ≡ false) → P (fall_fault before ds at)
  unfolding fall_fault before_of
  fall_from [] j before at place b n tail right = none (record { none = λ i h f. true-not-false f (right i (omega (arith, h, n))) })
  fall_from (d ∷ ds) j before at place b n tail right =
      let here : d ≡ get_or all j 0 = tail 0 ∙ ap (λ i. get_or all i 0) (omega arith) in
      when_cases P (outside before max_distance d)
      (λ e. rw place (found j (record { one = omega (arith, n); falls = rw (← b, ← here) e; first = λ i h f. true-not-false f (right i h) })))
      (λ e. fall_from ds (suc j) d (at + 4) (omega (arith, place)) (next here) (omega (arith, n))
      (λ i. tail (suc i) ∙ ap (λ k. get_or all k 0) (omega arith)) (more (rw (← b, ← here) e)))
    where
      next : d ≡ get_or all j 0 → d ≡ before_of all (suc j)
      next e = e

      more : outside (before_of all j) max_distance (get_or all j 0) ≡ false → (i : ℕ) → i < suc j → outside (before_of all i) max_distance (get_or all i 0) ≡ false
      more e = rw (← add-one) (below_more (λ i. outside (before_of all i) max_distance (get_or all i 0) ≡ false) j right e)

short-at : (gap n : ℕ) (ds : List ℕ) → gap_short gap n ds ≡ true → (j : ℕ) × (j < length ds) × (gap * (j + n) < get_or ds j 0)
unfolding gap_short
short-at gap n [] e = absurd (true-not-false e refl)
short-at gap n (d ∷ ds) e = ⊎_elim (λ h. (0, omega arith, here (ltb-true (gap * n) d h))) (λ h. later (short-at gap (n + 1) ds h)) (or_cases (ltb (gap * n) d) _ e)
  where
    here : gap * n < d → gap * (0 + n) < d
    here h = let f : 0 + n ≡ n = omega arith in rw f h

    later : (j : ℕ) × (j < length ds) × (gap * (j + (n + 1)) < get_or ds j 0) → (j : ℕ) × (j < suc (length ds)) × (gap * (j + n) < get_or (d ∷ ds) j 0)
    later x = let f : x.0 + (n + 1) ≡ suc x.0 + n = omega arith in (suc x.0, omega (arith, x.1), rw (← f) x.2)

-- one mark more
chain-marks : (s : List ℕ) (n : ℕ) (t : Table) → Walked s n t → ChainMark s (record_start s n) → Chains s (suc n)
chain-marks s n t w mark = rw (← add-one) (below_more (λ m. ChainMark s (record_start s m)) n w.chains mark)

-- the fixed part
module _ (s : List ℕ) (n : ℕ) (t : Table) (w : Walked s n t) (room : n < max_chains) (mark : ChainMark s (record_start s n)) where
  abbrev at : ℕ
  at = record_start s n

  chains : Chains s (suc n)
  chains = chain-marks s n t w mark

  -- bytes of the chain record are missing
  cut : (m : ℕ) → ltb (length s) m ≡ true → m ≤ at + length_at s at → Blames s 2 (length s)
  unfolding record_start
  cut m e h = Blames.in_chain n room chains (omega (arith, ltb-true (length s) m e, h))

  -- an id that is used is an earlier record's
  earlier : used t (id_at s at) ≡ true → (m : ℕ) × (m < n) × (id_at s (record_start s m) ≡ id_at s at)
  unfolding find_of
  earlier e =
      let m = find_of t (id_at s at) in
      let h : m < t.count = ltb-true _ _ e in
      let l : m < n = omega (arith, h, w.count) in
      let hit : (row_of t m).id ≡ id_at s at = eqb-true _ _ (first_hit (λ i. eqb (row_of t i).id (id_at s at)) 0 t.count (omega (arith, h))) in
      (m, l, sym (w.ids m l) ∙ hit)

  module _ (r : ChainRecord s n) where
    identity_points : Points s (identity_fault s at t)
    unfolding identity_fault
    identity_points =
        when_cases (Points s) (eqb (id_at s at) 0 || used t (id_at s at))
        (λ e. Blames.at_id n r (⊎_elim (λ z. inl (eqb-true _ _ z)) (λ u. inr (earlier u)) (or_cases (eqb (id_at s at) 0) (used t (id_at s at)) e)))
        (λ e. when_cases (Points s) _ (λ kind. Blames.at_kind n r (ltb-true _ _ kind))
        (λ kind. when_cases (Points s) _ (λ overload. Blames.at_overload n r (ltb-false _ _ kind) (ltb-true _ _ overload)) (λ overload. tt)))

    times_points : Points s (times_fault s at)
    unfolding times_fault
    times_points =
        when_cases (Points s) _ (λ e. Blames.at_deadline n r e) (λ e. when_cases (Points s) _ (λ g. Blames.at_gap n r (ltb-true _ _ g)) (λ g. tt))

    total : ltb max_all_tasks (t.tasks + tasks_at s at) ≡ true → max_all_tasks < tasks_before s (suc n)
    unfolding tasks_before
    total e = omega (arith, ltb-true max_all_tasks (t.tasks + tasks_at s at) e, w.tasks)

    counts_points : Points s (counts_fault s at t.tasks)
    unfolding counts_fault
    counts_points =
        when_cases (Points s) _ (λ e. Blames.at_list_length n r e)
        (λ e. when_cases (Points s) (outside 1 max_tasks (tasks_at s at) || ltb max_all_tasks (t.tasks + tasks_at s at))
        (λ f. Blames.at_task_count n r (⊎_elim (λ z. inl z) (λ z. inr (total z)) (or_cases (outside 1 max_tasks (tasks_at s at)) _ f))) (λ f. tt))

  head_points : Points s (head_fault s at t)
  unfolding head_fault
  head_points =
      when_cases (Points s) (ltb (length s) (at + head_length (form_at s at))) (λ e. cut (at + head_length (form_at s at)) e (omega arith))
      (λ e. let r : ChainRecord s n = record { few = room; chains = chains; there = ltb-false _ _ e } in
      then_points s _ _ (identity_points r) (λ f. then_points s _ _ (times_points r) (λ g. counts_points r)))

  module _ (l : ListThere s n) where
    abbrev ds : List ℕ
    ds = distances_at s at

    long : length ds ≡ listed_at s at
    long = length-spaced (word 4 s) 4 (listed_at s at) (list_place s at)

    fall_points : Points s (fall_fault 0 ds (list_place s at)) × (fall_fault 0 ds (list_place s at) ≡ Ok tt → Rises ds)
    unfolding before_of
    fall_points =
        fall_from ds (list_place s at) (λ v. Points s v × (v ≡ Ok tt → Rises ds)) (λ r. (tt, λ e. r)) (λ j f. (Blames.at_distance n j l f, λ e. absurd (not-accepted e)))
        ds 0 0 (list_place s at) (omega arith) refl (omega arith)
        (λ i. ap (λ k. get_or ds k 0) (omega arith)) (λ i h. absurd (omega arith))

    last_points : Rises ds → Points s (last_fault ds (list_place s at))
    unfolding last_fault
    last_points r = rw long (when_cases (Points s) (eqb (get_or ds (listed_at s at - 1) 0) 0) (λ e. Blames.at_last n l r (eqb-true _ _ e)) (λ e. tt))

    last_some : last_fault ds (list_place s at) ≡ Ok tt → 0 < get_or ds (listed_at s at - 1) 0
    unfolding last_fault
    last_some e = subst (λ m. 0 < get_or ds (m - 1) 0) long (not-zero _ (when_none _ _ _ _ e).0)

    gap_points : Rises ds → 0 < get_or ds (listed_at s at - 1) 0 → Points s (gap_fault (gap_at s at) ds (gap_place at))
    unfolding gap_fault
    gap_points r some = when_cases (Points s) (not (eqb (gap_at s at) 0) && gap_short (gap_at s at) 1 ds)
        (λ e. let b = both_true (not (eqb (gap_at s at) 0)) (gap_short (gap_at s at) 1 ds) e in
        let j = short-at (gap_at s at) 1 ds b.1 in
        Blames.at_small_gap n j.0 l r some (not-zero _ (not-true _ b.0)) (omega (arith, j.1, long)) j.2) (λ e. tt)

  list_points : head_fault s at t ≡ Ok tt → Points s (list_fault s at)
  unfolding list_fault distances_fault
  list_points e =
      let h = head-right s at t e in
      when_cases (Points s) (ltb (length s) (largest_place s at)) (λ f. cut (largest_place s at) f (omega arith))
      (λ f. let l : ListThere s n = record { chain = record { few = room; chains = chains; there = h.there }; some = h.listed.0; there = ltb-false _ _ f } in
      let rises = fall_points l in
      then_points s _ _ rises.0 (λ g. then_points s _ _ (last_points l (rises.1 g)) (λ k. gap_points l (rises.1 g) (last_some l k))))

  -- the largest distances beside the smallest
  module _ (l : LargestThere s n) (flag : flag_at s at ≤ 1) where
    abbrev ss : List ℕ
    ss = distances_at s at

    abbrev ls : List ℕ
    ls = largests_at s at

    counted : (length ls ≡ known_at s at) × (length ls ≤ length ss)
    counted =
        let m = length-spaced (word 4 s) 4 (known_at s at) (largest_place s at) in
        (m, omega (arith, m, length-spaced (word 4 s) 4 (listed_at s at) (list_place s at), known-most (form_at s at) (flag_at s at) (listed_at s at)))

    short-from : (ds es : List ℕ) (j before : ℕ) → before ≡ before_of ls j → j + length es ≡ length ls → length es ≤ length ds
        → ((i : ℕ) → get_or ds i 0 ≡ get_or ss (j + i) 0) → ((i : ℕ) → get_or es i 0 ≡ get_or ls (j + i) 0)
        → ((i : ℕ) → i < j → outside (max (before_of ls i) (get_or ss i 0)) max_largest (get_or ls i 0) ≡ false) → Points s (short_fault before ds es (largest_place s at + 4 * j))
    unfolding short_fault before_of
    short-from ds [] j before b c few smallest largest right = tt
    short-from [] (e ∷ es) j before b c few smallest largest right = absurd (omega arith)
    short-from (d ∷ ds) (e ∷ es) j before b c few smallest largest right =
        let d-here : d ≡ get_or ss j 0 = smallest 0 ∙ ap (λ i. get_or ss i 0) (omega arith) in
        let e-here : e ≡ get_or ls j 0 = largest 0 ∙ ap (λ i. get_or ls i 0) (omega arith) in
        let next : largest_place s at + 4 * j + 4 ≡ largest_place s at + 4 * suc j = omega arith in
        when_cases (Points s) (outside (max before d) max_largest e)
        (λ h. Blames.at_largest n j l flag (record { one = omega (arith, c); short = rw (← b, ← d-here, ← e-here) h; first = λ i k f. true-not-false f (right i k) }))
        (λ h. rw next (short-from ds es (suc j) e (step e-here) (omega (arith, c)) (omega arith)
        (λ i. smallest (suc i) ∙ ap (λ k. get_or ss k 0) (omega arith)) (λ i. largest (suc i) ∙ ap (λ k. get_or ls k 0) (omega arith)) (more (rw (← b, ← d-here, ← e-here) h))))
      where
        step : e ≡ get_or ls j 0 → e ≡ before_of ls (suc j)
        step f = f

        more : outside (max (before_of ls j) (get_or ss j 0)) max_largest (get_or ls j 0) ≡ false → (i : ℕ) → i < suc j → outside (max (before_of ls i) (get_or ss i 0)) max_largest (get_or ls i 0) ≡ false
        more f = rw (← add-one) (below_more (λ i. outside (max (before_of ls i) (get_or ss i 0)) max_largest (get_or ls i 0) ≡ false) j right f)

    short_points : Points s (short_fault 0 ss ls (largest_place s at))
    unfolding before_of
    short_points =
        let first : largest_place s at + 4 * 0 ≡ largest_place s at = omega arith in
        subst (λ m. Points s (short_fault 0 ss ls m)) first (short-from ss ls 0 0 refl (omega arith) counted.1 (λ i. ap (λ k. get_or ss k 0) (omega arith)) (λ i. ap (λ k. get_or ls k 0) (omega arith)) (λ i h. absurd (omega arith)))

  largest_points : ListThere s n → Points s (largest_fault s at)
  unfolding largest_fault
  largest_points l =
      when_cases (Points s) (ltb 1 (flag_at s at)) (λ e. Blames.at_flag n l (ltb-true _ _ e))
      (λ e. when_cases (Points s) (ltb (length s) (first_task s at)) (λ f. cut (first_task s at) f (omega arith))
      (λ f. short_points (record { list = l; there = ltb-false _ _ f }) (ltb-false _ _ e)))

  module _ (l : LargestThere s n) where
    mark_points : (i : ℕ) → TaskThere s n i 2 → (m : Mark) → mark_of (word 2 s (task_place s n i)) ≡ m → Points s (no_task m (task_place s n i))
    mark_points i there Task e = tt
    mark_points i there Chain e = Blames.at_task_mark n i there (λ f. let g = sym e ∙ f in let z : ◌≡◌ {A = ℕ} 0 1 = cc in omega arith)
    mark_points i there End e = Blames.at_task_mark n i there (λ f. let g = sym e ∙ f in let z : ◌≡◌ {A = ℕ} 0 1 = cc in omega arith)
    mark_points i there Unknown e = Blames.at_task_mark n i there (λ f. let g = sym e ∙ f in let z : ◌≡◌ {A = ℕ} 0 1 = cc in omega arith)

    task_points : (i : ℕ) → i < tasks_at s at → Points s (task_fault s (task_place s n i))
    unfolding task_fault task_mark_fault task_rest_fault values_fault
    task_points i h =
        then_points s _ _
        (when_cases (Points s) (ltb (length s) (task_place s n i + 2)) (λ e. cut (task_place s n i + 2) e (omega (arith, h)))
        (λ e. mark_points i (record { largest = l; one = h; there = ltb-false _ _ e }) (mark_of (word 2 s (task_place s n i))) refl))
        (λ g. when_cases (Points s) (ltb (length s) (task_place s n i + 8)) (λ e. cut (task_place s n i + 8) e (omega (arith, h)))
        (λ e. let there : TaskThere s n i 8 = record { largest = l; one = h; there = ltb-false _ _ e } in
        when_cases (Points s) _ (λ p. Blames.at_priority n i there (eqb-true _ _ p))
        (λ p. when_cases (Points s) _ (λ c. Blames.at_cost n i there (not-zero _ p) c) (λ c. tt))))

    tasks_points : (left i : ℕ) → i + left ≡ tasks_at s at → Points s (tasks_fault s left (task_place s n i))
    unfolding tasks_fault
    tasks_points zero i e = tt
    tasks_points (suc left) i e =
        let f : task_place s n i + 8 ≡ task_place s n (suc i) = omega arith in
        then_points s _ _ (task_points i (omega arith)) (λ g. rw f (tasks_points left (suc i) (omega arith)))

  chain_points : Points s (chain_fault s at t)
  unfolding chain_fault
  chain_points =
      then_points s _ _ head_points
      (λ e. then_points s _ _ (list_points e)
      (λ f. let h = head-right s at t e in
      let l : ListThere s n = record { chain = record { few = room; chains = chains; there = h.there }; some = h.listed.0; there = (list_right s at f).there } in
      then_points s _ _ (largest_points l)
      (λ g. let first : task_place s n 0 ≡ first_task s at = omega arith in
      rw (← first) (tasks_points (record { list = l; there = (largest-right s at g).there }) (tasks_at s at) 0 (omega arith)))))

  -- the next record
  walked_on : Walked s (suc n) (plus t (row_at s at))
  unfolding row_at tasks_before
  walked_on = record {
    chains = chains;
    count = omega (arith, w.count);
    ids = rw (← add-one) (below_more (λ m. (row_of (plus t (row_at s at)) m).id ≡ id_at s (record_start s m)) n
        (λ m l. ap (λ (r : Row). r.id) (get_or-set_other t.row t.count m (row_at s at) blank (λ e. omega (arith, e, w.count))) ∙ w.ids m l)
        (ap (λ (r : Row). r.id) (ap (λ k. row_of (plus t (row_at s at)) k) (sym w.count) ∙ get_or-set_same t.row t.count (row_at s at) blank (omega (arith, w.count, w.size)))));
    tasks = ap (λ k. k + tasks_at s at) w.tasks;
    size = length-set t.row t.count (row_at s at) ∙ w.size;
  }

-- the end record
end_points : (s : List ℕ) (n : ℕ) (t : Table) → Walked s n t → n ≤ max_chains → mark_of (word 2 s (record_start s n)) ≡ End → Points s (end_fault s (record_start s n) t)
unfolding end_fault
end_points s n t w few mark =
    let m : EndMark s n = record { few = few; before = w.chains; mark = mark } in
    when_cases (Points s) _ (λ e. Blames.in_end n m (ltb-true _ _ e))
    (λ e. let r : EndRecord s n = record { end = m; there = ltb-false _ _ e } in
    when_cases (Points s) (eqb t.count 0) (λ z. Blames.at_count n r (inl (sym w.count ∙ eqb-true _ _ z)))
    (λ z. when_cases (Points s) _ (λ c. Blames.at_count n r (inr (λ g. eqb-false _ _ (not-true _ c) (g ∙ sym w.count))))
    (λ c. when_cases (Points s) _
    (λ m. let more : length s ≡ record_start s n + 4 → ⊥ = eqb-false _ _ (not-true _ m) in
    Blames.at_trailing n r (omega (arith, not-zero t.count z, w.count)) (eqb-true _ _ (not-false _ c) ∙ w.count) (omega (arith, r.there)))
    (λ m. tt))))

-- a record, and those from it on
PointsAt : List ℕ → Reading → Type 0
PointsAt s r = Points s r.verdict

unless_points : (s : List ℕ) (v : Verdict) (r : Reading) → Points s v → (v ≡ Ok tt → PointsAt s r) → PointsAt s (unless refusal v r)
unfolding unless PointsAt
unless_points s (Ok u) r p q = q refl
unless_points s (Err f) r p q = p

-- a chain beside those before it: its form, one too many, or itself
beside_points : (s : List ℕ) (n : ℕ) (t : Table) → Walked s n t → n ≤ max_chains → record_start s n + 2 ≤ length s → mark_of (word 2 s (record_start s n)) ≡ Chain
    → Points s (beside_fault s (record_start s n) (form_at s 0) t)
unfolding beside_fault
beside_points s n t w few there mark =
    when_cases (Points s) (not (eqb (form_at s (record_start s n)) (form_at s 0)))
    (λ h. Blames.at_form n (record { few = few; before = w.chains; there = there; chain = mark; other = eqb-false _ _ (not-true _ h) }))
    (λ h. let m : ChainMark s (record_start s n) = record { chain = mark; form = eqb-true _ _ (not-false _ h) } in
    when_cases (Points s) (eqb t.count max_chains)
    (λ e. let f : n ≡ max_chains = sym w.count ∙ eqb-true _ _ e in
    subst (λ k. Chains s (suc k) → record_start s k + 2 ≤ length s → Blames s 11 (record_start s k)) (sym f) (λ c h. Blames.at_seventeenth c h) (chain-marks s n t w m) there)
    (λ e. let f : t.count ≡ max_chains → ⊥ = eqb-false _ _ e in chain_points s n t w (omega (arith, w.count)) m))

start_points : (s : List ℕ) (n : ℕ) (t : Table) (next : Reading) → Walked s n t → n ≤ max_chains
    → (ChainMark s (record_start s n) → BesideRight s (record_start s n) (form_at s 0) t → PointsAt s next) → PointsAt s (start s (record_start s n) t next)
unfolding start PointsAt
start_points s n t next w few f =
    when_cases (PointsAt s) (ltb (length s) (record_start s n + 2)) (λ e. Blames.in_mark n few w.chains (ltb-true _ _ e)) (λ e. by (ltb-false _ _ e) (mark_of (word 2 s (record_start s n))) refl)
  where
    by : record_start s n + 2 ≤ length s → (m : Mark) → mark_of (word 2 s (record_start s n)) ≡ m
        → PointsAt s (by_mark (record_start s n) m (unless refusal (beside_fault s (record_start s n) (form_at s 0) t) next) (unless refusal (end_fault s (record_start s n) t) (accepted t)))
    by there Chain e =
        unless_points s (beside_fault s (record_start s n) (form_at s 0) t) next (beside_points s n t w few there e)
        (λ h. let r = beside-right s (record_start s n) (form_at s 0) t h in f (record { chain = e; form = r.form }) r)
    by there End e = unless_points s (end_fault s (record_start s n) t) (accepted t) (end_points s n t w few e) (λ g. tt)
    by there Task e = Blames.at_mark n (record { few = few; before = w.chains; there = there; unknown = (λ g. let h = sym e ∙ g in let z : ◌≡◌ {A = ℕ} 0 1 = cc in omega arith, λ g. let h = sym e ∙ g in let z : ◌≡◌ {A = ℕ} 0 1 = cc in omega arith) })
    by there Unknown e = Blames.at_mark n (record { few = few; before = w.chains; there = there; unknown = (λ g. let h = sym e ∙ g in let z : ◌≡◌ {A = ℕ} 0 1 = cc in omega arith, λ g. let h = sym e ∙ g in let z : ◌≡◌ {A = ℕ} 0 1 = cc in omega arith) })

records_points : (left : ℕ) (s : List ℕ) (n : ℕ) (t : Table) → Walked s n t → n + left ≡ max_chains → PointsAt s (records left s (record_start s n) t)
unfolding records record_start PointsAt
records_points zero s n t w e =
    start_points s n t (refusal BadChainCount (record_start s n)) w (omega arith) (λ mark r. absurd (r.room (w.count ∙ omega arith)))
records_points (suc left) s n t w e =
    start_points s n t _ w (omega arith)
    (λ mark r. records_points left s (suc n) (plus t (row_at s (record_start s n))) (walked_on s n t w (omega arith) mark) (omega arith))

walked_none : (s : List ℕ) → Walked s 0 empty
unfolding tasks_before
walked_none s = record { chains = λ m h. absurd (omega arith); count = refl; ids = λ m h. absurd (omega arith); tasks = refl; size = length-replicate max_chains blank }

table_points : (s : List ℕ) → PointsAt s (read_table s)
unfolding read_table record_start PointsAt
table_points s =
    when_cases (PointsAt s) (eqb (length s) 0 || ltb (limit_of (word 2 s 0)) (length s))
    (λ e. Blames.in_length (⊎_elim (λ z. inl (eqb-true _ _ z)) (λ z. inr (ltb-true _ _ z)) (or_cases (eqb (length s) 0) _ e)))
    (λ e. records_points max_chains s 0 empty (walked_none s) refl)

-- every refusal points at the field that its number names
pub blames : (s : List ℕ) {n : Refusal} {place : ℕ} → (read_table s).verdict ≡ Err (n, place) → Blames s (numbered n) place
unfolding PointsAt
blames s e = subst (Points s) e (table_points s)

-- the ranges of a table's numbers
module _ {n : ℕ} where
  first : 1 ≤ n → n ≤ 7 → TableRefusal n
  first l h = inl (l, h)

  second : 9 ≤ n → n ≤ 11 → TableRefusal n
  second l h = inr (inl (l, h))

  third : 28 ≤ n → n ≤ 31 → TableRefusal n
  third l h = inr (inr (inl (l, h)))

  fourth : n ≡ 33 → TableRefusal n
  fourth e = inr (inr (inr e))

-- so it has a table's number, and its place lies within the table, or is its length or 0
placed : (s : List ℕ) {n place : ℕ} → Blames s n place → Placed s n place
placed s (Blames.in_length h) = record { number = first (lit≤ tt) (lit≤ tt); within = inr (inl (refl, refl)) }
placed s (Blames.in_mark n few c h) = record { number = first (lit≤ tt) (lit≤ tt); within = inr (inr (refl, refl)) }
placed s (Blames.in_chain n few c h) = record { number = first (lit≤ tt) (lit≤ tt); within = inr (inr (refl, refl)) }
placed s (Blames.in_end n m h) = record { number = first (lit≤ tt) (lit≤ tt); within = inr (inr (refl, refl)) }
placed s (Blames.at_mark n r) = record { number = first (lit≤ tt) (lit≤ tt); within = inl (omega (arith, r.there)) }
placed s (Blames.at_form n r) = record { number = first (lit≤ tt) (lit≤ tt); within = inl (omega (arith, r.there)) }
placed s (Blames.at_task_mark n i r h) = record { number = first (lit≤ tt) (lit≤ tt); within = inl (omega (arith, r.there)) }
placed s (Blames.at_id n r h) = record { number = first (lit≤ tt) (lit≤ tt); within = inl (omega (arith, r.there)) }
placed s (Blames.at_kind n r h) = record { number = first (lit≤ tt) (lit≤ tt); within = inl (omega (arith, r.there)) }
placed s (Blames.at_overload n r g h) = record { number = first (lit≤ tt) (lit≤ tt); within = inl (omega (arith, r.there)) }
placed s (Blames.at_deadline n r h) = record { number = first (lit≤ tt) (lit≤ tt); within = inl (omega (arith, r.there)) }
placed s (Blames.at_gap n r h) = record { number = first (lit≤ tt) (lit≤ tt); within = inl (omega (arith, r.there)) }
placed s (Blames.at_list_length n r h) = record { number = third (lit≤ tt) (lit≤ tt); within = inl (omega (arith, r.there)) }
placed s (Blames.at_task_count n r h) = record { number = second (lit≤ tt) (lit≤ tt); within = inl (omega (arith, r.there)) }
placed s (Blames.at_distance n j r h) = record { number = third (lit≤ tt) (lit≤ tt); within = inl (omega (arith, r.there, h.one, length-spaced (word 4 s) 4 (listed_at s (record_start s n)) (list_place s (record_start s n)))) }
placed s (Blames.at_last n r rises h) = record { number = third (lit≤ tt) (lit≤ tt); within = inl (omega (arith, r.there, r.some)) }
placed s (Blames.at_small_gap n j r rises some g h l) = record { number = third (lit≤ tt) (lit≤ tt); within = inl (omega (arith, r.chain.there)) }
placed s (Blames.at_flag n r h) = record { number = fourth refl; within = inl (omega (arith, r.chain.there)) }
placed s (Blames.at_largest n j r g h) = record { number = fourth refl; within = inl (omega (arith, r.there, h.one, length-spaced (word 4 s) 4 (known_at s (record_start s n)) (largest_place s (record_start s n)))) }
placed s (Blames.at_priority n i r h) = record { number = second (lit≤ tt) (lit≤ tt); within = inl (omega (arith, r.there)) }
placed s (Blames.at_cost n i r g h) = record { number = second (lit≤ tt) (lit≤ tt); within = inl (omega (arith, r.there)) }
placed s (Blames.at_seventeenth r h) = record { number = second (lit≤ tt) (lit≤ tt); within = inl (omega (arith, h)) }
placed s (Blames.at_count n r h) = record { number = second (lit≤ tt) (lit≤ tt); within = inl (omega (arith, r.there)) }
placed s (Blames.at_trailing n r some g h) = record { number = second (lit≤ tt) (lit≤ tt); within = inl h }

pub refused-placed : (s : List ℕ) {n : Refusal} {place : ℕ} → (read_table s).verdict ≡ Err (n, place) → Placed s (numbered n) place
refused-placed s e = placed s (blames s e)

-- no refusal has the number 0
pub some_number : (s : List ℕ) {n : Refusal} {place : ℕ} → (read_table s).verdict ≡ Err (n, place) → 0 < numbered n
some_number s e = ⊎_elim (λ h. h.0) (λ g. ⊎_elim (λ h. omega (arith, h.0)) (λ k. ⊎_elim (λ h. omega (arith, h.0)) (λ h. omega (arith, h)) k) g) (refused-placed s e).number

-- and no place is beyond the longest table
pub small-place : (s : List ℕ) {n : Refusal} {place : ℕ} → (read_table s).verdict ≡ Err (n, place) → place ≤ max_bytes
small-place s {n = n} {place = place} e = ⊎_elim
    (λ h. let f : ◌≡◌ {A = Verdict} (Err (BadLength, 0)) (Err (n, place)) = sym (ap (λ (r : Reading). r.verdict) (read-long s (or_right (eqb (length s) 0) _ (beyond-both s (word 2 s 0) h)))) ∙ e in
    let g : ◌≡◌ {A = Fault} (BadLength, 0) (n, place) = cc in let z : 0 ≡ place = ap (λ (x : Fault). x.1) g in omega arith)
    (λ h. ⊎_elim (λ g. omega (arith, g)) (λ g. ⊎_elim (λ k. omega (arith, k.1)) (λ k. omega (arith, k.1)) g) (refused-placed s e).within)
    (lt_or_le max_bytes (length s))
