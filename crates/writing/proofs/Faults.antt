-- A row's first fault: the steps of its loops, and what its tests say. Assumes nothing.
use Prim.Native.Nat.{ℕ, max, ◌+◌, ◌*◌, ◌-◌, ◌<◌, ◌≤◌}
use mathlib.Core.Path.{◌≡◌, refl, ap, sym, ◌∙◌}
use mathlib.Core.List.{List, ◌∷◌}
use mathlib.Core.Bool.{Bool, true, false, not, ◌&&◌, ◌||◌}
use mathlib.Core.Logic.{◌⊎◌, ⊎_elim}
use native.Mathlib.Omega.{arith}
use lib.Dec.{eqb, ltb}
use lib.ListN.{length, get_or, take, drop}
use lib.Seq.{get_or-take, length-take-le}
use borrow.Author.Tests.{lt-ltb, le-ltb, ltb-true, ltb-false, eqb-true, eq-eqb, ne_eqb, not-false}
use Rattle.search.specs.Choice.{◌when◌else◌}
use Rattle.search.specs.Find.{first}
use Rattle.search.proofs.Choice.{when_yes, when_no, true-not-false, lt_or_le}
use Rattle.search.proofs.Find.{first_miss, first-none}
use Rattle.table.specs.Limits.{max_chains, max_tasks, max_all_tasks, max_distances, max_distance, max_largest, max_cost}
use Rattle.table.specs.Record.{largest_form}
use Rattle.table.specs.Fault.{◌then◌, outside, fall_fault, last_fault, gap_short, gap_fault, distances_fault, short_fault}
use Rattle.table.specs.Read.{refused_by}
use Rattle.table.specs.declared.Row.{Row}
use Rattle.std.specs.declared.result.Result.TheVariants.{Ok, Err}
use Rattle.table.specs.Refusal.{Verdict}
use Rattle.table.specs.declared.refusal.Refusal.{Refusal}
use Rattle.table.specs.declared.refusal.Refusal.TheVariants.{BadMark, BadTask, BadChainCount, BadDistance, LastIsZero, GapTooSmall, BadLargest}
use Rattle.table.proofs.Firsts.{or_left, or_right, or_none, none_or, or_cases}
use Rattle.table.proofs.Faultless.{inside}
use Rattle.table.proofs.Forms.{short-here, short_on, short-end}
use Rattle.table.proofs.Lists.{fall_here, fall_on, fall_end, gap-end}
use Rattle.slices.proofs.Lengths.{gap_record, any_record}
use Rattle.writing.specs.Rows.{is_form, Typed}
use Rattle.writing.specs.Code.Tally.{Refused, no_form, form_wrong, counts_refusal, list_refusal, task_wrong, tasks_refusal, first_refusal, row_refusal, counted, judged_with, Small, JudgedWith}
use Rattle.writing.specs.declared.judged.Tally.{Tally}
use Rattle.writing.proofs.Ids.{or_assoc, or_last}
use Rattle.writing.proofs.Lefts.{left-on, left-none}

-- a refusal is not the lack of one
pub refused-not : {n : Refusal} → ◌≡◌ {A = Refused} (Err n) (Ok tt) → ⊥
refused-not e = let z : ◌≡◌ {A = ℕ} 0 1 = cc in omega arith

-- no refusal: what it says
pub refusal-none : (n m : Refused) → first_refusal n m ≡ Ok tt → (n ≡ Ok tt) × (m ≡ Ok tt)
refusal-none (Ok u) m e = (refl, e)
refusal-none (Err n) m e = absurd (refused-not e)

when-none : (n : Refusal) (m : Refused) (t : Bool) → (Err n when t else m) ≡ Ok tt → (t ≡ false) × (m ≡ Ok tt)
unfolding ◌when◌else◌
when-none n m true e = absurd (refused-not e)
when-none n m false e = (refl, e)

-- outside 1 to a limit, as the code's two tests say it
module _ (high x : ℕ) where
  pub outside-yes : (x < 1) ⊎ (ltb high x ≡ true) → outside 1 high x ≡ true
  outside-yes h = ⊎_elim (λ l. or_left _ _ (lt-ltb _ _ l)) (λ e. or_right (ltb x 1) _ e) h

  pub outside_no : 1 ≤ x → ltb high x ≡ false → outside 1 high x ≡ false
  outside_no l e = or_none _ _ (le-ltb _ _ l) e

-- The first n of a list, from number i on

module _ (list : List ℕ) (n i : ℕ) (h : n ≤ length list) (k : i < n) where
  opened : drop i (take n list) ≡ get_or list i 0 ∷ drop (i + 1) (take n list)
  opened = left-on list n i 0 k (omega arith)

  module _ (before : ℕ) where
    fall_stop : outside before max_distance (get_or list i 0) ≡ true → fall_fault before (drop i (take n list)) (4 * i) ≡ Err (BadDistance, 4 * i)
    fall_stop e = rw opened (fall_here before (get_or list i 0) (drop (i + 1) (take n list)) (4 * i) e)

    fall_next : outside before max_distance (get_or list i 0) ≡ false
        → fall_fault before (drop i (take n list)) (4 * i) ≡ fall_fault (get_or list i 0) (drop (i + 1) (take n list)) (4 * (i + 1))
    fall_next e =
        let next : 4 * i + 4 ≡ 4 * (i + 1) = omega arith in
        rw (opened, ← next) (fall_on before (get_or list i 0) (drop (i + 1) (take n list)) (4 * i) e)

  gap_open : (gap : ℕ) → gap_short gap (i + 1) (drop i (take n list)) ≡ (ltb (gap * (i + 1)) (get_or list i 0) || gap_short gap (i + 1 + 1) (drop (i + 1) (take n list)))
  unfolding gap_short
  gap_open gap = ap (gap_short gap (i + 1)) opened

-- A list's fault

accepted_by : (v : Verdict) → refused_by v ≡ Ok tt → v ≡ Ok tt
accepted_by (Ok u) e = refl
accepted_by (Err f) e = absurd (refused-not e)

refused-first : (a b : Verdict) {n : Refusal} → refused_by a ≡ Err n → refused_by (a then b) ≡ Err n
unfolding ◌then◌
refused-first (Ok u) b e = absurd (refused-not (sym e))
refused-first (Err f) b e = e

last_or_gap : (p q : ℕ) (t u : Bool) → refused_by ((Err (LastIsZero, p) when t else Ok tt) then (Err (GapTooSmall, q) when u else Ok tt)) ≡ (Err LastIsZero when t else Err GapTooSmall when u else Ok tt)
unfolding ◌then◌ ◌when◌else◌
last_or_gap p q true u = refl
last_or_gap p q false true = refl
last_or_gap p q false false = refl

pub list-falls : (gap : ℕ) (ds : List ℕ) {n : Refusal} → refused_by (fall_fault 0 ds 0) ≡ Err n → list_refusal gap ds ≡ Err n
unfolding list_refusal distances_fault
list-falls gap ds e = refused-first (fall_fault 0 ds 0) (last_fault ds 0 then gap_fault gap ds 0) e

list-rises : (gap : ℕ) (list : List ℕ) (n : ℕ) → n ≤ length list → 1 ≤ n → refused_by (fall_fault 0 (take n list) 0) ≡ Ok tt
    → list_refusal gap (take n list) ≡ (Err LastIsZero when eqb (get_or list (n - 1) 0) 0 else Err GapTooSmall when not (eqb gap 0) && gap_short gap 1 (take n list) else Ok tt)
unfolding list_refusal distances_fault last_fault gap_fault ◌then◌
list-rises gap list n h k e =
    let ds = take n list in
    let last : get_or ds (length ds - 1) 0 ≡ get_or list (n - 1) 0 = rw (length-take-le n list h) (get_or-take n list (n - 1) 0 (omega arith)) in
    rw (← last) (ap (λ v. refused_by (v then last_fault ds 0 then gap_fault gap ds 0)) (accepted_by (fall_fault 0 ds 0) e)
    ∙ last_or_gap (0 + 4 * (length ds - 1)) 0 (eqb (get_or ds (length ds - 1) 0) 0) (not (eqb gap 0) && gap_short gap 1 ds))

-- The first i distances of which none falls

pub record Passed (gap : ℕ) (list : List ℕ) (n : ℕ) (short : Bool) (before i : ℕ) : Type 0 where
  pub falls : refused_by (fall_fault 0 (take n list) 0) ≡ (Err BadDistance when ltb max_distance before else refused_by (fall_fault before (drop i (take n list)) (4 * i)))
  pub gaps : (short || gap_short gap (i + 1) (drop i (take n list))) ≡ gap_short gap 1 (take n list)
  pub last : (j : ℕ) → i ≡ j + 1 → before ≡ get_or list j 0

pub passed_none : (gap : ℕ) (list : List ℕ) (n : ℕ) → Passed gap list n false 0 0
passed_none gap list n = record { falls = sym (when_no _ _ (le-ltb max_distance 0 (omega arith))); gaps = refl; last = λ j e. absurd (omega (arith, e)) }

module _ {gap : ℕ} {list : List ℕ} {n : ℕ} {short : Bool} {before i : ℕ} (p : Passed gap list n short before i) (h : n ≤ length list) where
  -- the next one falls
  pub passed-stop : i < n → get_or list i 0 < before → refused_by (fall_fault 0 (take n list) 0) ≡ Err BadDistance
  passed-stop k l = p.falls ∙ ⊎_elim
      (λ m. when_yes _ _ (lt-ltb _ _ m))
      (λ m. when_no _ _ (le-ltb _ _ m) ∙ ap refused_by (fall_stop list n i h k before (or_left _ (ltb max_distance (get_or list i 0)) (lt-ltb _ _ l))))
      (lt_or_le max_distance before)

  -- it does not
  pub passed_on : i < n → before ≤ get_or list i 0 → Passed gap list n (short || ltb (gap * (i + 1)) (get_or list i 0)) (get_or list i 0) (i + 1)
  passed_on k l = record {
    falls = p.falls ∙ ⊎_elim
        (λ m. when_yes (Err BadDistance) (refused_by (fall_fault before (drop i (take n list)) (4 * i))) (lt-ltb max_distance before m) ∙ sym (when_yes (Err BadDistance) (refused_by (fall_fault (get_or list i 0) (drop (i + 1) (take n list)) (4 * (i + 1)))) (lt-ltb max_distance (get_or list i 0) (omega (arith, m, l)))))
        (λ m. when_no (Err BadDistance) (refused_by (fall_fault before (drop i (take n list)) (4 * i))) (le-ltb max_distance before m) ∙ ⊎_elim
        (λ q. ap refused_by (fall_stop list n i h k before (or_right (ltb (get_or list i 0) before) _ (lt-ltb max_distance (get_or list i 0) q))) ∙ sym (when_yes (Err BadDistance) (refused_by (fall_fault (get_or list i 0) (drop (i + 1) (take n list)) (4 * (i + 1)))) (lt-ltb max_distance (get_or list i 0) q)))
        (λ q. ap refused_by (fall_next list n i h k before (or_none _ _ (le-ltb _ _ l) (le-ltb _ _ q))) ∙ sym (when_no (Err BadDistance) (refused_by (fall_fault (get_or list i 0) (drop (i + 1) (take n list)) (4 * (i + 1)))) (le-ltb max_distance (get_or list i 0) q)))
        (lt_or_le max_distance (get_or list i 0)))
        (lt_or_le max_distance before);
    gaps = or_assoc short (ltb (gap * (i + 1)) (get_or list i 0)) (gap_short gap (i + 1 + 1) (drop (i + 1) (take n list))) ∙ ap (λ b. short || b) (sym (gap_open list n i h k gap)) ∙ p.gaps;
    last = λ j e. let q : i ≡ j = omega (arith, e) in ap (λ m. get_or list m 0) q;
  }

  -- all of them: the last is the greatest
  module _ (e : i ≡ n) where
    pub passed-all : refused_by (fall_fault 0 (take n list) 0) ≡ (Err BadDistance when ltb max_distance before else Ok tt)
    passed-all = p.falls ∙ ap (λ m. Err BadDistance when ltb max_distance before else m) (ap (λ ds. refused_by (fall_fault before ds (4 * i))) (left-none list n i (omega arith)) ∙ ap refused_by (fall_end before (4 * i)))

    short-all : gap_short gap 1 (take n list) ≡ short
    short-all = sym p.gaps ∙ ap (λ b. short || b) (ap (gap_short gap (i + 1)) (left-none list n i (omega arith)) ∙ gap-end gap (i + 1)) ∙ or_last short

    pub passed-number : 1 ≤ n → before ≤ max_distance → list_refusal gap (take n list) ≡ (Err LastIsZero when eqb before 0 else Err GapTooSmall when not (eqb gap 0) && short else Ok tt)
    passed-number k l =
        list-rises gap list n h k (passed-all ∙ when_no _ _ (le-ltb _ _ l))
        ∙ ap (λ m. Err LastIsZero when eqb m 0 else Err GapTooSmall when not (eqb gap 0) && gap_short gap 1 (take n list) else Ok tt) (sym (p.last (n - 1) (omega arith)))
        ∙ ap (λ b. Err LastIsZero when eqb before 0 else Err GapTooSmall when not (eqb gap 0) && b else Ok tt) short-all

-- The largest distances beside the smallest

-- below the smallest, or outside as those are that follow another
module _ (before d l : ℕ) where
  pub short-below : l < d → outside (max before d) max_largest l ≡ true
  short-below h = or_left (ltb l (max before d)) _ (lt-ltb l (max before d) (omega arith))

  pub short-outside : outside before max_largest l ≡ true → outside (max before d) max_largest l ≡ true
  short-outside e = ⊎_elim
      (λ f. or_left (ltb l (max before d)) _ (lt-ltb l (max before d) (omega (arith, ltb-true l before f))))
      (λ f. or_right (ltb l (max before d)) _ f)
      (or_cases (ltb l before) (ltb max_largest l) e)

  pub short-inside : d ≤ l → outside before max_largest l ≡ false → outside (max before d) max_largest l ≡ false
  short-inside h e = let i = inside before max_largest l e in or_none _ _ (le-ltb l (max before d) (omega (arith, i.0))) (le-ltb max_largest l i.1)

module _ (list largest : List ℕ) (n : ℕ) (h : n ≤ length list) (g : n ≤ length largest) where
  -- what is found of those from number i on, after one that is `before`
  abbrev pub short_from : ℕ → ℕ → Refused
  short_from before i = refused_by (short_fault before (drop i (take n list)) (drop i (take n largest)) (4 * i))

  module _ (i before : ℕ) (k : i < n) where
    pub short-stop : outside (max before (get_or list i 0)) max_largest (get_or largest i 0) ≡ true → short_from before i ≡ Err BadLargest
    short-stop e = rw (opened list n i h k, opened largest n i g k)
        (ap refused_by (short-here before (get_or list i 0) (drop (i + 1) (take n list)) (get_or largest i 0) (drop (i + 1) (take n largest)) (4 * i) e))

    pub short-next : outside (max before (get_or list i 0)) max_largest (get_or largest i 0) ≡ false → short_from before i ≡ short_from (get_or largest i 0) (i + 1)
    short-next e =
        let next : 4 * i + 4 ≡ 4 * (i + 1) = omega arith in
        rw (opened list n i h k, opened largest n i g k, ← next)
        (ap refused_by (short_on before (get_or list i 0) (drop (i + 1) (take n list)) (get_or largest i 0) (drop (i + 1) (take n largest)) (4 * i) e))

  pub short-done : (before i : ℕ) → n ≤ i → short_from before i ≡ Ok tt
  short-done before i k = rw (left-none largest n i (omega arith)) (ap refused_by (short-end before (drop i (take n list)) (4 * i)))

-- The tasks' fault

pub task-wrong : (priority cost : List ℕ) (i : ℕ) → (get_or priority i 0 ≡ 0) ⊎ (outside 1 max_cost (get_or cost i 0) ≡ true) → task_wrong priority cost i ≡ true
task-wrong priority cost i h = ⊎_elim (λ e. or_left _ _ (eq-eqb _ _ e)) (λ e. or_right (eqb (get_or priority i 0) 0) _ e) h

module _ (priority cost : List ℕ) (n : ℕ) where
  pub tasks-wrong : (i : ℕ) → i < n → task_wrong priority cost i ≡ true → tasks_refusal priority cost n ≡ Err BadTask
  unfolding tasks_refusal
  tasks-wrong i h e =
      let u : ¬ (i < first (task_wrong priority cost) 0 n) = λ k. true-not-false e (first_miss (task_wrong priority cost) 0 n i (omega arith) k) in
      when_yes (Err BadTask) (Ok tt) (lt-ltb (first (task_wrong priority cost) 0 n) n (omega arith))

  pub tasks-right : ((i : ℕ) → i < n → task_wrong priority cost i ≡ true → ⊥) → tasks_refusal priority cost n ≡ Ok tt
  unfolding tasks_refusal
  tasks-right none = when_no (Err BadTask) (Ok tt) (le-ltb (first (task_wrong priority cost) 0 n) n (omega (arith, first-none (task_wrong priority cost) 0 n (λ i a h e. none i (omega arith) e))))

-- No fault: what it says of the counts

pub counts-none : (before listed tasks : ℕ) → counts_refusal before listed tasks ≡ Ok tt
    → (1 ≤ listed) × (listed ≤ max_distances) × (tasks ≤ max_tasks) × (before + tasks ≤ max_all_tasks)
unfolding counts_refusal
counts-none before listed tasks e =
    let a = when-none _ _ _ e in
    let b = when-none _ _ _ a.1 in
    let l = none_or _ _ a.0 in
    let t = none_or (outside 1 max_tasks tasks) _ b.0 in
    (ltb-false _ _ l.0, ltb-false _ _ l.1, ltb-false _ _ (none_or (ltb tasks 1) _ t.0).1, ltb-false _ _ t.1)

pub row_counts : (j : Tally) (r : Row) → row_refusal j r ≡ Ok tt
    → (1 ≤ r.listed) × (r.listed ≤ max_distances) × (r.tasks ≤ max_tasks) × (j.tasks + r.tasks ≤ max_all_tasks)
unfolding row_refusal
row_counts j r e = counts-none j.tasks r.listed r.tasks (refusal-none _ _ (refusal-none _ _ (refusal-none _ _ e).1).1).0

-- A form that is not wrong: it is that of the rows before; there is such a one

pub is_some : (form : ℕ) → is_form form ≡ true → form ≡ no_form → ⊥
is_some form e z = true-not-false e (ap is_form z)

module _ (before form : ℕ) where
  pub form-first : before ≡ no_form → form_wrong before form ≡ not (is_form form)
  unfolding form_wrong
  form-first z = when_yes _ _ (eq-eqb before no_form z)

  pub form-later : (before ≡ no_form → ⊥) → form_wrong before form ≡ not (eqb form before)
  unfolding form_wrong
  form-later h = when_no _ _ (ne_eqb before no_form h)

  pub form-on : (before ≡ no_form → ⊥) → form_wrong before form ≡ false → form ≡ before
  form-on h e = eqb-true form before (not-false _ (sym (form-later h) ∙ e))

  pub form_is : (before ≡ no_form) ⊎ (is_form before ≡ true) → form_wrong before form ≡ false → is_form form ≡ true
  form_is is e = ⊎_elim (λ z. not-false _ (sym (form-first z) ∙ e)) (λ k. ap is_form (form-on (is_some before k) e) ∙ k) is

-- One row more

module _ {j : Tally} {r : Row} (f : Typed r) where
  -- one of another form
  pub with-other : form_wrong j.form r.form ≡ true → JudgedWith j r (Err BadMark)
  unfolding judged_with ◌when◌else◌
  with-other e = record { fits = f; small = tt; is = rw e }

  module _ (form : form_wrong j.form r.form ≡ false) where
    pub with-many : j.count ≡ max_chains → JudgedWith j r (Err BadChainCount)
    unfolding judged_with ◌when◌else◌
    with-many e = record { fits = f; small = tt; is = rw (form, eq-eqb _ _ e) }

    module _ (few : j.count ≡ max_chains → ⊥) where
      pub with-fault : {n : Refusal} → row_refusal j r ≡ Err n → JudgedWith j r (Err n)
      unfolding judged_with ◌when◌else◌
      with-fault e = record { fits = f; small = tt; is = rw (form, ne_eqb _ _ few, e) }

      pub with_none : Small j → row_refusal j r ≡ Ok tt → JudgedWith j r (Ok (counted j r))
      unfolding judged_with ◌when◌else◌
      with_none s e =
          let b = row_counts j r e in
          record {
            fits = f;
            small = record {
              count = omega (arith, s.count);
              tasks = b.3;
              bytes = omega (arith, s.bytes, any_record r.form r.flag r.listed r.tasks b.1);
              gap_bytes_holds = λ h. omega (arith, gap-before h, gap_record r.form r.flag r.listed r.tasks b.1 h);
              places = omega (arith, s.places, length-take-le 15 j.ids (omega (arith, s.places)));
            };
            is = rw (form, ne_eqb _ _ few, e);
          }
        where
          -- the rows before, if any, are as short, since they have its form
          gap-before : (r.form ≡ largest_form → ⊥) → j.bytes ≤ 48 * j.count + 8 * j.tasks
          gap-before h = s.gap_bytes_holds (λ z. h (form-on j.form r.form (λ y. omega (arith, y, z)) form ∙ z))
