-- Sound records one after the other, no two with one id, and their end record are refused only for being too much, or of mixed forms.
-- Assumes nothing.
use Prim.Native.Nat.{ℕ, zero, suc, max, ◌+◌, ◌*◌, ◌-◌, ◌<◌, ◌≤◌}
use native.Mathlib.Omega.{arith}
use mathlib.Core.Path.{◌≡◌, refl, ap, sym, subst, ◌∙◌}
use mathlib.Core.List.{List, [], ◌++◌, flatten, append_assoc}
use mathlib.Core.Bool.{true}
use mathlib.Core.Logic.{⊎_elim}
use borrow.Author.Tests.{ltb-true}
use lib.ListN.{length, get_or, take, drop, length-append, length-drop, take-append-drop}
use lib.Dec.{ltb}
use lib.Seq.{get_or-drop, drop-cons, drop-length, take-suc, take-take}
use Rattle.search.specs.Lists.{sum_of, All}
use Rattle.search.proofs.Choice.{lt_or_le}
use Rattle.search.proofs.Lists.{sum_append}
use Rattle.table.specs.Limits.{max_chains, max_deadline, max_distances, max_distance, max_largest, max_tasks, max_all_tasks, max_cost}
use Rattle.table.specs.Bytes.{word, Bytes}
use Rattle.table.specs.Record.{form_at, id_at, gap_at, listed_at, tasks_at, list_place, first_task, length_at, distances_at, largests_at, cost_at, count_at, row_at}
use Rattle.table.specs.Fault.{outside, mark_of}
use Rattle.table.specs.Place.{place_of}
use Rattle.table.specs.Read.{accepted, limit_of, read_table, table_of}
use Rattle.table.specs.Field.{record_start, tasks_before, Chains, EndRecord, ChainRecord, task_place, before_of, Blames}
use Rattle.table.specs.Code.Good.{GoodDistances, GoodLargests, GoodRow}
use Rattle.table.specs.declared.Row.{Row}
use Rattle.table.specs.declared.Table.{Table}
use Rattle.table.specs.declared.Mark.{Mark}
use Rattle.table.specs.declared.Mark.TheVariants.{Chain, Task, End}
use Rattle.table.specs.Refusal.{Verdict, numbered}
use Rattle.std.specs.declared.result.Result.TheVariants.{Ok, Err}
use Rattle.table.specs.declared.refusal.Refusal.{Refusal}
use Rattle.table.specs.declared.refusal.Refusal.TheVariants.{BadMark}
use Rattle.table.proofs.Numbers.{numbered_same}
use Rattle.table.proofs.Fields.{blames}
use Rattle.table.proofs.Firsts.{or_cases}
use Rattle.table.proofs.Widths.{limit-least}
use Rattle.table.proofs.Lists.{length-spaced}
use Rattle.table.proofs.Goods.{distances-read, largests-read}
use Rattle.table.proofs.Stands.{priority-at, cost-at}
use Rattle.slices.specs.Stored.{record_of, form_in, OneForm, Mixed}
use Rattle.slices.proofs.Moved.{SameBytes, word_moved, tasks-moved, mark-moved, id-moved, task-mark-moved, row_moved}
use Rattle.slices.proofs.Cuts.{cut_out, cut-same, cut-row, cut-tasks, cut-whole}
use Rattle.slices.proofs.Parts.{Whole, Parts, row_in, all-at}
use Rattle.slices.proofs.Parsed.{stands, stands-rest}
use Rattle.slices.proofs.Stored.{accepted-read, stored-good, stored-holds}
use Rattle.slices.proofs.Records.{record_there, record_cut, parts-form}

-- a chain record by itself that an accepted table could hold
pub record Sound (r : List ℕ) : Type 0 where
  pub whole : Whole r
  pub good : GoodRow (row_in r)
  pub task_marks : (i : ℕ) → i < tasks_at r 0 → mark_of (word 2 r (first_task r 0 + 8 * i)) ≡ Task

-- one that is cut out of bytes is
pub cut-sound : (s : List ℕ) (at : ℕ) → at + length_at s at ≤ length s → mark_of (word 2 s at) ≡ Chain → GoodRow (row_at s at)
    → ((i : ℕ) → i < tasks_at s at → mark_of (word 2 s (first_task s at + 8 * i)) ≡ Task) → Sound (cut_out s at)
cut-sound s at there mark good tasks = record {
  whole = cut-whole s at there mark;
  good = subst GoodRow (sym (cut-row s at there)) good;
  task_marks = λ i l. let k : i < tasks_at s at = omega (arith, cut-tasks s at there) in
      ap mark_of (task-mark-moved (cut_out s at) s 0 at (cut-same s at there) i k) ∙ tasks i k;
}

-- so each stored record of an accepted table is
module _ (s : List ℕ) (t : Table) (read : read_table s ≡ accepted t) (bytes : Bytes s) (chain : ℕ) (h : chain < t.count) where
  pub record_sound : Sound (record_of s chain)
  unfolding row_at
  record_sound =
      let holds = stored-holds s t read bytes in
      let made = sym (holds.makes chain h) in
      subst Sound (sym (record_cut s t read bytes chain h))
      (cut-sound s (place_of t chain) (record_there s t read bytes chain h) (holds.marks chain h) (subst GoodRow made ((stored-good s t read bytes).row chain h))
      (subst (λ (r : Row). (i : ℕ) → i < r.tasks → mark_of (word 2 s (first_task s (place_of t chain) + 8 * i)) ≡ Task) made (holds.task_marks chain h)))

-- as many tasks as records have
abbrev pub tasks_in : List (List ℕ) → ℕ
tasks_in rs = sum_of (λ r. tasks_at r 0) rs

-- why such a table can be refused: too many bytes for the first record's form, mixed forms, too many tasks or chains, counted up to some
-- record while all have one form, or no chain
pub data NoTable (rs : List (List ℕ)) (n : ℕ) : Type 0 where
  bytes : n ≡ 1 → limit_of (form_in rs 0) < length (flatten rs) + 4 → NoTable rs n
  forms : n ≡ 3 → (i : ℕ) → Mixed rs i → NoTable rs n
  tasks : n ≡ 9 → (i : ℕ) → OneForm rs i → max_all_tasks < tasks_in (take i rs) → NoTable rs n
  chains : n ≡ 11 → OneForm rs (suc max_chains) → max_chains < length rs → NoTable rs n
  none : n ≡ 11 → length rs ≡ 0 → NoTable rs n

-- the first records have no more tasks than all
pub tasks-first : (i : ℕ) (rs : List (List ℕ)) → tasks_in (take i rs) ≤ tasks_in rs
tasks-first i rs = omega (arith, ap tasks_in (take-append-drop i rs), sum_append (λ r. tasks_at r 0) (take i rs) (drop i rs))

-- a chain's mark is not the end's
not-both : {m : Mark} → m ≡ Chain → m ≡ End → ⊥
not-both e f = let z : ◌≡◌ {A = ℕ} 0 1 = cc in omega arith

-- what lies within the limits is not outside them
not-outside : (low high x : ℕ) → low ≤ x → x ≤ high → outside low high x ≡ true → ⊥
not-outside low high x l h e = ⊎_elim (λ f. omega (arith, ltb-true x low f)) (λ f. omega (arith, ltb-true high x f)) (or_cases (ltb x low) (ltb high x) e)

-- a good row's lists, as the bytes have them
module _ (s : List ℕ) (at : ℕ) (g : GoodRow (row_at s at)) where
  abbrev ds : List ℕ
  ds = distances_at s at

  abbrev ls : List ℕ
  ls = largests_at s at

  list-good : GoodDistances ds
  list-good = subst GoodDistances (distances-read s at) g.list

  list_long : length ds ≡ listed_at s at
  list_long = length-spaced (word 4 s) 4 (listed_at s at) (list_place s at)

  largest-good : GoodLargests ds ls
  largest-good = rw (← distances-read s at, ← largests-read s at) g.largest

  -- no distance falls, no largest one is too short, the last is not 0, and a known gap is large enough
  none-falls : (j : ℕ) → j < length ds → before_of ds j ≤ get_or ds j 0
  unfolding before_of
  none-falls zero h = omega arith
  none-falls (suc j) h = let e : j + 1 ≡ suc j = omega arith in rw e at (list-good.rises j (omega arith))

  none-short : (j : ℕ) → j < length ls → max (before_of ls j) (get_or ds j 0) ≤ get_or ls j 0
  unfolding before_of
  none-short zero h = omega (arith, largest-good.above 0 h)
  none-short (suc j) h = let e : j + 1 ≡ suc j = omega arith in
      let r : get_or ls j 0 ≤ get_or ls (suc j) 0 = rw e at (largest-good.rises j (omega arith)) in
      omega (arith, r, largest-good.above (suc j) h)

  last_some : 0 < get_or ds (listed_at s at - 1) 0
  last_some = subst (λ m. 0 < get_or ds (m - 1) 0) list_long list-good.ends

  gap-enough : 0 < gap_at s at → (j : ℕ) → j < listed_at s at → get_or ds j 0 ≤ gap_at s at * (j + 1)
  unfolding row_at
  gap-enough h j l = subst (λ (m : List ℕ). get_or m j 0 ≤ gap_at s at * (j + 1)) (distances-read s at) (g.gaps h j l)

-- sound records one after the other, and four bytes
module _ (rs : List (List ℕ)) (e s : List ℕ) (p : Parts s rs e) (sound : All Sound rs) where
  -- record n, and what follows it
  abbrev record_at : ℕ → List ℕ
  record_at n = get_or rs n []

  abbrev rest : ℕ → List ℕ
  rest n = flatten (drop n rs) ++ e

  rest-on : (n : ℕ) → n < length rs → rest n ≡ record_at n ++ rest (suc n)
  unfolding flatten
  rest-on n h = rw (drop-cons rs n [] h) (append_assoc (record_at n) (flatten (drop (suc n) rs)) e)

  -- where the bytes go on with it, they have it there
  here : (n : ℕ) → n < length rs → drop (record_start s n) s ≡ rest n → SameBytes s (record_at n) (record_start s n) 0 (length_at (record_at n) 0)
  here n h d = stands s (record_start s n) (record_at n) (rest (suc n)) (d ∙ rest-on n h) (all-at Whole rs n [] p.whole h)

  -- after n records the bytes go on with the others and the end record
  goes_on : (n : ℕ) → n ≤ length rs → drop (record_start s n) s ≡ rest n
  unfolding record_start
  goes_on zero h = p.bytes
  goes_on (suc n) h = stands-rest s (record_start s n) (record_at n) (rest (suc n)) (goes_on n (omega arith) ∙ rest-on n h) (all-at Whole rs n [] p.whole h)

  -- at least the end record's four bytes follow
  long : (n : ℕ) → n ≤ length rs → record_start s n + 4 ≤ length s
  long n h = omega (arith, length-drop (record_start s n) s, ap length (goes_on n h), length-append (flatten (drop n rs)) e, p.last)

  -- and after all of them only these
  ended : drop (record_start s (length rs)) s ≡ e
  unfolding flatten
  ended = goes_on (length rs) (omega arith) ∙ rw (drop-length rs)

  end-word : (o : ℕ) → word 2 s (record_start s (length rs) + o) ≡ word 2 e o
  unfolding SameBytes
  end-word o = word_moved s e 2 (record_start s (length rs) + o) o
      (λ i h. let f : record_start s (length rs) + o + i ≡ record_start s (length rs) + (o + i) = omega arith in
      rw (f, ← get_or-drop (record_start s (length rs)) s (o + i) 0, ended))

  end-last : length s ≡ record_start s (length rs) + 4
  end-last = omega (arith, length-drop (record_start s (length rs)) s, ap length ended, p.last)

  -- the tasks before record n are those of the records before it
  tasks-before : (n : ℕ) → n ≤ length rs → tasks_before s n ≡ tasks_in (take n rs)
  unfolding tasks_before sum_of
  tasks-before zero h = refl
  tasks-before (suc n) h =
      let k = here n h (goes_on n (omega arith)) in
      rw (take-suc rs n [] h, sum_append (λ r. tasks_at r 0)) (omega (arith, tasks-before n (omega arith), tasks-moved s (record_at n) (record_start s n) 0 k))

  -- what stands after n records: the next, with its marks, its form, its id and a good row
  record Standing (n : ℕ) : Type 0 where
    mark : mark_of (word 2 s (record_start s n)) ≡ Chain
    form : form_at s (record_start s n) ≡ form_in rs n
    id : id_at s (record_start s n) ≡ id_at (record_at n) 0
    good : GoodRow (row_at s (record_start s n))
    task_marks : (i : ℕ) → i < tasks_at s (record_start s n) → mark_of (word 2 s (task_place s n i)) ≡ Task

  standing : (n : ℕ) → n < length rs → Standing n
  standing n h =
      let at = record_start s n in
      let k = here n h (goes_on n (omega arith)) in
      let r = all-at Sound rs n [] sound h in
      record {
        mark = ap mark_of (mark-moved s (record_at n) at 0 k) ∙ r.whole.mark;
        form = mark-moved s (record_at n) at 0 k;
        id = id-moved s (record_at n) at 0 k;
        good = subst GoodRow (sym (row_moved s (record_at n) at 0 k)) r.good;
        task_marks = λ i l. let m : i < tasks_at (record_at n) 0 = omega (arith, tasks-moved s (record_at n) at 0 k) in
            ap mark_of (task-mark-moved s (record_at n) at 0 k i m) ∙ r.task_marks i m;
      }

  -- the first mark is that of the first record
  first-form : 0 < length rs → form_at s 0 ≡ form_in rs 0
  unfolding record_start
  first-form h = (standing 0 h).form

  -- no two bear one id, and the four bytes are an end record with their number
  module _ (alone : (i j : ℕ) → i < length rs → j < length rs → id_at (get_or rs i []) 0 ≡ id_at (get_or rs j []) 0 → i ≡ j)
      (mark : mark_of (word 2 e 0) ≡ End) (count : word 2 e 2 ≡ length rs) where
    end_mark : mark_of (word 2 s (record_start s (length rs))) ≡ End
    end_mark = let f : record_start s (length rs) + 0 ≡ record_start s (length rs) = omega arith in ap mark_of (rw f at (end-word 0)) ∙ mark

    -- so no more chains than records are met, and the end after all of them
    chains-met : (n : ℕ) → Chains s n → n ≤ length rs
    chains-met n c = ⊎_elim (λ l. absurd (not-both (c (length rs) l).chain end_mark)) (λ l. l) (lt_or_le (length rs) n)

    end-met : (n : ℕ) → Chains s n → (mark_of (word 2 s (record_start s n)) ≡ Chain → ⊥) → n ≡ length rs
    end-met n c h =
        let few = chains-met n c in
        ⊎_elim (λ l. absurd (h (standing n l).mark)) (λ l. omega (arith, few)) (lt_or_le n (length rs))

    all-met : (n : ℕ) → EndRecord s n → n ≡ length rs
    all-met n r = end-met n r.end.before (λ c. not-both c r.end.mark)

    -- the chains met first have the form of the first record
    forms-met : (n : ℕ) → Chains s n → OneForm rs n
    forms-met n c j h =
        let few = chains-met n c in
        let l : j < length rs = omega arith in
        sym (standing j l).form ∙ (c j h).form ∙ first-form (omega arith)

    -- a chain record that is met is one of them
    met : (n : ℕ) → ChainRecord s n → Standing n
    met n r = standing n (chains-met (suc n) r.chains)

    -- no earlier one bears its id
    id_met : (m n : ℕ) → ChainRecord s n → m < n → id_at s (record_start s m) ≡ id_at s (record_start s n) → ⊥
    id_met m n r l f =
        let h = chains-met (suc n) r.chains in
        let k : m < length rs = omega arith in
        omega (arith, alone m n k h (sym (standing m k).id ∙ f ∙ (standing n h).id))

    -- a chain of another form that is met is the first of them
    other-met : (n : ℕ) → Chains s n → mark_of (word 2 s (record_start s n)) ≡ Chain → (form_at s (record_start s n) ≡ form_at s 0 → ⊥) → Mixed rs n
    other-met n c m other =
        let few = chains-met n c in
        let one : n < length rs = ⊎_elim (λ l. l) (λ l. let f : n ≡ length rs = omega arith in absurd (not-both (subst (λ k. mark_of (word 2 s (record_start s k)) ≡ Chain) f m) end_mark)) (lt_or_le n (length rs)) in
        record { one = one; other = λ f. other ((standing n one).form ∙ f ∙ sym (first-form (omega arith))); before = forms-met n c }

    -- more bytes than the first mark allows are more than the first record's form does: an end record alone is short enough
    too_long : limit_of (word 2 s 0) < length s → limit_of (form_in rs 0) < length (flatten rs) + 4
    unfolding record_start
    too_long l =
        let n : length s ≡ length (flatten rs) + 4 = omega (arith, ap length p.bytes, length-append (flatten rs) e, p.last) in
        ⊎_elim (λ h. rw (← first-form h, ← n) l)
        (λ h. let f : length rs ≡ 0 = omega (arith, h) in
        let start : record_start s (length rs) ≡ 0 = ap (record_start s) f in
        absurd (omega (arith, l, end-last, start, limit-least (word 2 s 0))))
        (lt_or_le 0 (length rs))

    -- any other refusal would blame one of the records, or the end record
    only : {n place : ℕ} → Blames s n place → NoTable rs n
    unfolding row_at
    only (Blames.in_length h) = ⊎_elim (λ z. absurd (omega (arith, long 0 (omega arith), z))) (λ l. NoTable.bytes refl (too_long l)) h
    only (Blames.in_mark n few c h) = absurd (omega (arith, long n (chains-met n c), h))
    only (Blames.in_chain n few c h) = absurd (omega (arith, long (suc n) (chains-met (suc n) c), h))
    only (Blames.in_end n m h) = absurd (omega (arith, long n (chains-met n m.before), h))
    only (Blames.at_mark n r) = absurd (r.unknown.1 (subst (λ k. mark_of (word 2 s (record_start s k)) ≡ End) (sym (end-met n r.before r.unknown.0)) end_mark))
    only (Blames.at_form n r) = NoTable.forms refl n (other-met n r.before r.chain r.other)
    only (Blames.at_task_mark n i r h) = absurd (h ((met n r.largest.list.chain).task_marks i r.one))
    only (Blames.at_id n r h) = absurd (⊎_elim (λ z. omega (arith, (met n r).good.id, z)) (λ m. id_met m.0 n r m.1 m.2) h)
    only (Blames.at_kind n r h) = absurd (omega (arith, (met n r).good.kind, h))
    only (Blames.at_overload n r g h) = absurd (omega (arith, (met n r).good.overload, h))
    only (Blames.at_deadline n r h) = absurd (not-outside 1 max_deadline _ (met n r).good.deadline (met n r).good.deadline_max h)
    only (Blames.at_gap n r h) = absurd (omega (arith, (met n r).good.gap_max, h))
    only (Blames.at_list_length n r h) =
        let g = (met n r).good in
        let d = list-good s _ g in
        let l = list_long s _ g in
        absurd (not-outside 1 max_distances (listed_at s (record_start s n)) (omega (arith, d.some, l)) (omega (arith, d.few, l)) h)
    only (Blames.at_task_count n r h) = ⊎_elim
        (λ f. let g = (met n r).good.tasks in absurd (not-outside 1 max_tasks _ g.some g.few f))
        (λ l. NoTable.tasks refl (suc n) (forms-met (suc n) r.chains) (omega (arith, l, tasks-before (suc n) (chains-met (suc n) r.chains)))) h
    only (Blames.at_distance n j r h) = let g = (met n r.chain).good in absurd (not-outside _ max_distance _ (none-falls s _ g j h.one) ((list-good s _ g).near j) h.falls)
    only (Blames.at_last n r rises h) = absurd (omega (arith, last_some s (record_start s n) (met n r.chain).good, h))
    only (Blames.at_small_gap n j r rises some g h l) = absurd (omega (arith, gap-enough s (record_start s n) (met n r.chain).good g j h, l))
    only (Blames.at_flag n r h) = absurd (omega (arith, (met n r.chain).good.flag, h))
    only (Blames.at_largest n j r f h) =
        let g = (met n r.list.chain).good in
        absurd (not-outside _ max_largest _ (none-short s _ g j h.one) ((largest-good s _ g).near j) h.short)
    only (Blames.at_priority n i r h) = absurd (omega (arith, (met n r.largest.list.chain).good.tasks.priorities i r.one, priority-at s (record_start s n) i r.one, h))
    only (Blames.at_cost n i r g h) =
        let t = (met n r.largest.list.chain).good.tasks in
        let c = cost-at s (record_start s n) i r.one in
        absurd (not-outside 1 max_cost (cost_at s (task_place s n i)) (omega (arith, t.costs i r.one, c)) (omega (arith, t.costs_max i, c)) h)
    only (Blames.at_seventeenth c h) = NoTable.chains refl (forms-met (suc max_chains) c) (chains-met (suc max_chains) c)
    only (Blames.at_count n r h) = let f = all-met n r in
        ⊎_elim (λ z. NoTable.none refl (omega (arith, f, z))) (λ g. absurd (g (subst (λ k. count_at s (record_start s k) ≡ k) (sym f) (end-word 2 ∙ count)))) h
    only (Blames.at_trailing n r some g h) = absurd (omega (arith, end-last, ap (record_start s) (all-met n r), h))

    -- so such a table is refused only for one of these
    pub no_table : {n : Refusal} {place : ℕ} → (read_table s).verdict ≡ Err (n, place) → NoTable rs (numbered n)
    no_table f = only (blames s f)

    -- and with 3 where forms are mixed, unless the length or a field before the first record of the other form is at fault
    pub mixed-refused : Bytes s → (i : ℕ) → Mixed rs i → length s ≤ limit_of (form_in rs 0) → i ≤ max_chains → tasks_in (take i rs) ≤ max_all_tasks
        → (place : ℕ) × ((read_table s).verdict ≡ Err (BadMark, place))
    mixed-refused all i m short few most = by (read_table s).verdict refl
      where
        number : {n : ℕ} → NoTable rs n → n ≡ 3
        number (NoTable.bytes f h) = absurd (omega (arith, h, short, ap length p.bytes, length-append (flatten rs) e, p.last))
        number (NoTable.forms f j h) = f
        number (NoTable.tasks f j alike h) = ⊎_elim (λ l. absurd (m.other (alike i l)))
            (λ l. absurd (omega (arith, h, most, tasks-first j (take i rs), ap tasks_in (take-take j i rs l)))) (lt_or_le i j)
        number (NoTable.chains f alike h) = absurd (m.other (alike i (omega (arith, few))))
        number (NoTable.none f h) = absurd (omega (arith, h, m.one))

        by : (v : Verdict) → (read_table s).verdict ≡ v → (place : ℕ) × ((read_table s).verdict ≡ Err (BadMark, place))
        by (Ok u) f = absurd (m.other (parts-form s (table_of s) (accepted-read s f) all rs e p i m.one))
        by (Err f) e = (f.1, e ∙ ap (λ k. Err (k, f.1)) (numbered_same f.0 BadMark (number (no_table e))))
