-- A verdict and its refusal, apart from the place; what the reader says of a stored row is what its values say. Assumes nothing.
use Prim.Native.Nat.{ℕ, zero, suc, min, max, ◌+◌, ◌*◌, ◌-◌, ◌<◌, ◌≤◌}
use native.Mathlib.Omega.{arith}
use mathlib.Core.Path.{◌≡◌, refl, ap, sym, subst, ◌∙◌}
use mathlib.Core.List.{List, [], ◌∷◌}
use mathlib.Core.Bool.{Bool, true, false, not, ◌&&◌, ◌||◌}
use mathlib.Core.Logic.{⊎_elim}
use borrow.Author.Tests.{lt-ltb, le-ltb}
use lib.Dec.{eqb, ltb}
use lib.ListN.{length, get_or, take}
use lib.Seq.{ext_get_or, get_or-take, length-take-le}
use Rattle.search.specs.Choice.{◌when◌else◌}
use Rattle.search.specs.Find.{first}
use Rattle.search.proofs.Choice.{when_no, lt_or_le}
use Rattle.table.specs.Limits.{max_tasks, max_all_tasks, max_distances, max_distance, max_largest, max_cost}
use Rattle.table.specs.Bytes.{word}
use Rattle.table.specs.Record.{form_at, id_place, kind_place, overload_place, deadline_place, gap_place, gap_width, head_length, listed_place, listed_at, tasks_place, tasks_at, list_place, known_at, largest_place, first_task, length_at, priority_place, priority_at, cost_place, cost_at, spaced, distances_at, largests_at, priorities_at, costs_at, row_at, distances, known_of, largests}
use Rattle.table.specs.Find.{used}
use Rattle.table.specs.Fault.{◌then◌, outside, mark_of, identity_fault, times_fault, counts_fault, head_fault, fall_fault, last_fault, gap_short, gap_fault, distances_fault, list_fault, short_fault, largest_fault, task_mark_fault, values_fault, task_rest_fault, task_fault, tasks_fault, chain_fault}
use Rattle.table.specs.Place.{length_of, tasks_start}
use Rattle.table.specs.Read.{Reading, unless, by_verdict, refusal, refused_by}
use Rattle.table.specs.declared.Row.{Row}
use Rattle.table.specs.declared.Table.{Table}
use Rattle.std.specs.declared.result.Result.{Result}
use Rattle.std.specs.declared.result.Result.TheVariants.{Ok, Err}
use Rattle.table.specs.Refusal.{Verdict}
use Rattle.table.specs.declared.refusal.Refusal.{Refusal}
use Rattle.table.specs.declared.refusal.Refusal.TheVariants.{BytesMissing, BadId, BadKind, BadDeadline, BadGap, BadTaskCount, BadTask, BadListLength, BadDistance, LastIsZero, GapTooSmall, BadLargest}
use Rattle.table.proofs.Firsts.{or_left, or_right}
use Rattle.table.proofs.Lists.{length-spaced, spaced-at}
use Rattle.table.proofs.Widths.{known-most}
use Rattle.writing.specs.Rows.{gap_of, flag_of, cleared, Typed}
use Rattle.writing.specs.Code.Tally.{Refused, bears, identity_refusal, times_refusal, counts_refusal, list_refusal, largest_refusal, task_wrong, tasks_refusal, first_refusal, lists_refusal, row_refusal}
use Rattle.writing.specs.declared.judged.Tally.{Tally}
use Rattle.writing.proofs.Faults.{refusal-none, counts-none}
use Rattle.writing.proofs.Forms.{known-flag}
use Rattle.writing.proofs.Fields.{largest_start, Stored}

-- the verdict refuses so, its place left out
pub data Says : Verdict → Refused → Type 0 where
  none : Says (Ok tt) (Ok tt)
  fault : (n : Refusal) (place : ℕ) → Says (Err (n, place)) (Err n)

pub says-refused : {v : Verdict} {n : Refused} → Says v n → refused_by v ≡ n
says-refused Says.none = refl
says-refused (Says.fault n place) = refl

-- what follows it is the same
pub says-by : {A : Type 0} {v : Verdict} {n : Refused} → Says v n → (answer : Result A Refusal) → by_verdict Err v answer ≡ first_refusal n answer
says-by Says.none answer = refl
says-by (Says.fault n place) answer = refl

pub says_none : {v : Verdict} {n : Refused} → Says v n → n ≡ Ok tt → v ≡ Ok tt
says_none Says.none e = refl
says_none (Says.fault n place) e = absurd (let z : ◌≡◌ {A = ℕ} 0 1 = cc in omega arith)

-- one test
pub says_when : (n : Refusal) (place : ℕ) {v : Verdict} {m : Refused} (t : Bool) → Says v m → Says (Err (n, place) when t else v) (Err n when t else m)
unfolding ◌when◌else◌
says_when n place true s = Says.fault n place
says_when n place false s = s

-- the first of two; the second counts only where the first is none
pub says_then : {a b : Verdict} {n m : Refused} → Says a n → (n ≡ Ok tt → Says b m) → Says (a then b) (first_refusal n m)
unfolding ◌then◌
says_then Says.none s = s refl
says_then (Says.fault n place) s = Says.fault n place

pub says-unless : {v : Verdict} (r : Reading) {n m : Refused} → Says v n → (n ≡ Ok tt → Says r.verdict m) → Says (unless refusal v r).verdict (first_refusal n m)
unfolding unless
says-unless r Says.none s = s refl
says-unless r (Says.fault n place) s = Says.fault n place

first_assoc : (a b c : Refused) → first_refusal (first_refusal a b) c ≡ first_refusal a (first_refusal b c)
first_assoc (Ok u) b c = refl
first_assoc (Err n) b c = refl

-- Tests of a count that stands in one byte

above : (high x : ℕ) → high < x → outside 1 high x ≡ true
above high x h = or_right (ltb x 1) (ltb high x) (lt-ltb high x h)

cut : (high x : ℕ) → high < 255 → outside 1 high (min x 255) ≡ outside 1 high x
cut high x h = ⊎_elim
    (λ l. let e : min x 255 ≡ 255 = omega arith in ap (outside 1 high) e ∙ above high 255 h ∙ sym (above high x (omega arith)))
    (λ l. let e : min x 255 ≡ x = omega arith in ap (outside 1 high) e)
    (lt_or_le 255 x)

cut-tasks : (before x : ℕ) → (outside 1 max_tasks (min x 255) || ltb max_all_tasks (before + min x 255)) ≡ (outside 1 max_tasks x || ltb max_all_tasks (before + x))
cut-tasks before x = ⊎_elim
    (λ l. or_left _ _ (cut max_tasks x (omega arith) ∙ above max_tasks x (omega arith)) ∙ sym (or_left _ _ (above max_tasks x (omega arith))))
    (λ l. let e : min x 255 ≡ x = omega arith in ap (λ (n : ℕ). outside 1 max_tasks n || ltb max_all_tasks (before + n)) e)
    (lt_or_le 255 x)

-- The lists, whatever place is told

first_says : (n : Refusal) (at to : ℕ) (t : Bool) (v w : Verdict) → Says v (refused_by w) → Says (Err (n, at) when t else v) (refused_by (Err (n, to) when t else w))
unfolding ◌when◌else◌
first_says n at to true v w s = Says.fault n at
first_says n at to false v w s = s

one-says : (n : Refusal) (at to : ℕ) (t : Bool) → Says (Err (n, at) when t else Ok tt) (refused_by (Err (n, to) when t else Ok tt))
one-says n at to t = first_says n at to t (Ok tt) (Ok tt) Says.none

fall_says : (before : ℕ) (ds : List ℕ) (at to : ℕ) → Says (fall_fault before ds at) (refused_by (fall_fault before ds to))
unfolding fall_fault
fall_says before [] at to = Says.none
fall_says before (d ∷ ds) at to = first_says BadDistance at to (outside before max_distance d) _ _ (fall_says d ds (at + 4) (to + 4))

short-says : (before : ℕ) (ds ls : List ℕ) (at to : ℕ) → Says (short_fault before ds ls at) (refused_by (short_fault before ds ls to))
unfolding short_fault
short-says before ds [] at to = Says.none
short-says before [] (l ∷ ls) at to = Says.none
short-says before (d ∷ ds) (l ∷ ls) at to = first_says BadLargest at to (outside (max before d) max_largest l) _ _ (short-says l ds ls (at + 4) (to + 4))

list-says : (gap : ℕ) (ds : List ℕ) (at place : ℕ) → Says (distances_fault gap ds at place) (list_refusal gap ds)
unfolding distances_fault last_fault gap_fault list_refusal
list-says gap ds at place =
    subst (Says (fall_fault 0 ds at then last_fault ds at then gap_fault gap ds place)) (sym (says-refused (by 0 0))) (by at place)
  where
    -- the refusals that are told from the place 0 on
    by : (a p : ℕ) → Says (fall_fault 0 ds a then last_fault ds a then gap_fault gap ds p)
        (first_refusal (refused_by (fall_fault 0 ds 0)) (first_refusal (refused_by (last_fault ds 0)) (refused_by (gap_fault gap ds 0))))
    by a p = says_then (fall_says 0 ds a 0)
        (λ z. says_then (one-says LastIsZero (a + 4 * (length ds - 1)) (0 + 4 * (length ds - 1)) (eqb (get_or ds (length ds - 1) 0) 0))
        (λ y. one-says GapTooSmall p 0 (not (eqb gap 0) && gap_short gap 1 ds)))

-- A stored row

-- numbers read one every so many bytes are the first of a list
spaced-take : (f : ℕ → ℕ) (step n at : ℕ) (l : List ℕ) → n ≤ length l → ((i : ℕ) → i < n → f (at + step * i) ≡ get_or l i 0) → spaced f step n at ≡ take n l
spaced-take f step n at l h e =
    let a = length-spaced f step n at in
    ext_get_or 0 (spaced f step n at) (take n l) (a ∙ sym (length-take-le n l h))
    (λ i g. let m : i < n = omega (arith, g, a) in spaced-at f step n i at m ∙ e i m ∙ sym (get_or-take n l i 0 m))

module _ (s : List ℕ) (at : ℕ) (r : Row) (st : Stored s at r) where
  -- its gap and its flag
  abbrev gap : ℕ
  gap = gap_of r.form r.gap

  abbrev flag : ℕ
  flag = flag_of r.form r.flag

  identity_says : (t : Table) (ids : List ℕ) → (eqb r.id 0 || used t r.id) ≡ (eqb r.id 0 || bears ids r.id)
      → Says (identity_fault s at t) (identity_refusal ids r.id r.kind r.overload)
  unfolding identity_fault identity_refusal
  identity_says t ids e = rw (st.id, st.kind, st.overload, e)
      (says_when BadId (id_place at) _ (says_when BadKind (kind_place at) _ (says_when BadKind (overload_place at) _ Says.none)))

  times_says : Says (times_fault s at) (times_refusal r.deadline gap)
  unfolding times_fault times_refusal
  times_says = rw (st.deadline, st.gap) (says_when BadDeadline (deadline_place at) _ (says_when BadGap (gap_place at) _ Says.none))

  counts-says : (before : ℕ) → Says (counts_fault s at before) (counts_refusal before r.listed r.tasks)
  unfolding counts_fault counts_refusal
  counts-says before = rw (st.listed, st.tasks, cut max_distances r.listed (omega arith), cut-tasks before r.tasks)
      (says_when BadListLength (listed_place s at) _ (says_when BadTaskCount (tasks_place s at) _ Says.none))

  head-says : (t : Table) (ids : List ℕ) → (eqb r.id 0 || used t r.id) ≡ (eqb r.id 0 || bears ids r.id)
      → Says (head_fault s at t)
      (first_refusal (identity_refusal ids r.id r.kind r.overload) (first_refusal (times_refusal r.deadline gap) (counts_refusal t.tasks r.listed r.tasks)))
  unfolding head_fault ◌when◌else◌
  head-says t ids e = rw (le-ltb (length s) (at + head_length (form_at s at)) (omega (arith, st.there, ap gap_width st.form)))
      (says_then (identity_says t ids e) (λ z. says_then times_says (λ y. counts-says t.tasks)))

  -- where the counts are right
  module _ (f : Typed r) (few : r.listed ≤ max_distances) (some : r.tasks ≤ max_tasks) where
    listed-is : listed_at s at ≡ r.listed
    listed-is = st.listed ∙ omega arith

    tasks-is : tasks_at s at ≡ r.tasks
    tasks-is = st.tasks ∙ omega arith

    known_is : known_at s at ≡ known_of r
    known_is = rw (listed-is, st.flag, st.form) (known-flag r.form r.flag r.listed)

    -- where its lists and its tasks start
    list-is : list_place s at ≡ at + head_length r.form
    list-is = rw st.form

    largest-is : largest_place s at ≡ at + largest_start r
    largest-is = omega (arith, list-is, listed-is)

    first-is : first_task s at ≡ at + tasks_start r
    first-is = omega (arith, largest-is, known_is)

    distances-read : distances_at s at ≡ distances r
    distances-read = rw (listed-is, list-is) (spaced-take (word 4 s) 4 r.listed (at + head_length r.form) r.list (omega (arith, f.list_places)) st.distance)

    largests-read : largests_at s at ≡ largests r
    largests-read = rw (known_is, largest-is)
        (spaced-take (word 4 s) 4 (known_of r) (at + largest_start r) r.largest (omega (arith, f.largest_places, known-most r.form r.flag r.listed)) st.largest)

    priorities-read : priorities_at s at ≡ take r.tasks r.priority
    priorities-read = rw (tasks-is, first-is) (spaced-take (priority_at s) 8 r.tasks (at + tasks_start r) r.priority (omega (arith, f.priority_places)) st.priority)

    costs-read : costs_at s at ≡ take r.tasks r.cost
    costs-read = rw (tasks-is, first-is) (spaced-take (cost_at s) 8 r.tasks (at + tasks_start r) r.cost (omega (arith, f.cost_places)) st.cost)

    -- the row is read back, with 0 for what its form lacks and in the places past a count
    pub row_read : row_at s at ≡ cleared r
    unfolding row_at
    row_read =
        rw (
          distances-read,
          largests-read,
          priorities-read,
          costs-read,
          st.id,
          st.kind,
          st.overload,
          st.flag,
          st.deadline,
          st.gap,
          listed-is,
          tasks-is,
          st.form,
        )

    pub length-read : length_at s at ≡ length_of r
    length-read = omega (arith, first-is, tasks-is)

    list-there-says : Says (list_fault s at) (list_refusal gap (distances r))
    unfolding list_fault ◌when◌else◌
    list-there-says = rw (le-ltb (length s) (largest_place s at) (omega (arith, st.there, largest-is)), st.gap, distances-read)
        (list-says gap (distances r) (list_place s at) (gap_place at))

    largest-there-says : Says (largest_fault s at) (largest_refusal r)
    unfolding largest_fault largest_refusal
    largest-there-says =
        let there = when_no (Err (BytesMissing, length s)) (short_fault 0 (distances r) (largests r) (largest_place s at)) (le-ltb (length s) (first_task s at) (omega (arith, st.there, first-is))) in
        rw (distances-read, largests-read, there, st.flag) (says_when BadLargest (gap_place at) _ (short-says 0 (distances r) (largests r) (largest_place s at) 0))

    abbrev place : ℕ → ℕ
    place i = at + tasks_start r + 8 * i

    abbrev wrong : ℕ → Bool
    wrong = task_wrong r.priority r.cost

    -- two tests with one refusal are one
    one-test : (n : Refusal) (a b : Bool) → ◌≡◌ {A = Refused} (Err n when a else Err n when b else Ok tt) (Err n when a || b else Ok tt)
    unfolding ◌when◌else◌
    one-test n true b = refl
    one-test n false b = refl

    task-says : (i : ℕ) → i < r.tasks → Says (task_fault s (place i)) (Err BadTask when wrong i else Ok tt)
    unfolding task_fault task_mark_fault task_rest_fault values_fault mark_of ◌when◌else◌ ◌then◌
    task-says i h =
        rw (
          le-ltb (length s) (place i + 2) (omega (arith, st.there, h)),
          st.task_mark i h,
          le-ltb (length s) (place i + 8) (omega (arith, st.there, h)),
          st.priority i h,
          st.cost i h,
          ← one-test BadTask (eqb (get_or r.priority i 0) 0) (outside 1 max_cost (get_or r.cost i 0)),
        )
        (says_when BadTask (priority_place (place i)) (eqb (get_or r.priority i 0) 0) (says_when BadTask (cost_place (place i)) (outside 1 max_cost (get_or r.cost i 0)) Says.none))

    -- the first wrong task is the next one, or one of those after it
    next-wrong : (i k : ℕ) → i < r.tasks → (w : Bool)
        → ◌≡◌ {A = Refused} (first_refusal (Err BadTask when w else Ok tt) (Err BadTask when ltb k r.tasks else Ok tt)) (Err BadTask when ltb (i when w else k) r.tasks else Ok tt)
    unfolding ◌when◌else◌
    next-wrong i k h true = rw (lt-ltb i r.tasks h)
    next-wrong i k h false = refl

    tasks-says : (m i : ℕ) → i + m ≡ r.tasks → Says (tasks_fault s m (place i)) (Err BadTask when ltb (first wrong i m) r.tasks else Ok tt)
    unfolding tasks_fault first
    tasks-says zero i e = subst (Says (Ok tt)) (sym (when_no (Err BadTask) (Ok tt) (le-ltb i r.tasks (omega (arith, e))))) Says.none
    tasks-says (suc m) i e =
        let h : i < r.tasks = omega (arith, e) in
        let p : place i + 8 ≡ place (suc i) = omega arith in
        subst (Says (task_fault s (place i) then tasks_fault s m (place i + 8))) (next-wrong i (first wrong (suc i) m) h (wrong i))
        (says_then (task-says i h) (λ z. rw p (tasks-says m (suc i) (omega (arith, e)))))

    lists-says : Says (list_fault s at then largest_fault s at then tasks_fault s (tasks_at s at) (first_task s at)) (lists_refusal r)
    unfolding lists_refusal tasks_refusal
    lists-says =
        let z : place 0 ≡ first_task s at = omega (arith, first-is) in
        says_then list-there-says (λ y. says_then largest-there-says (λ x.
        rw tasks-is (subst (λ (n : ℕ). Says (tasks_fault s r.tasks n) (Err BadTask when ltb (first wrong 0 r.tasks) r.tasks else Ok tt)) z (tasks-says r.tasks 0 (omega arith)))))

  -- the reader says of the record what the values say of the row
  pub chain-says : Typed r → (j : Tally) (t : Table) → (eqb r.id 0 || used t r.id) ≡ (eqb r.id 0 || bears j.ids r.id) → t.tasks ≡ j.tasks
      → Says (chain_fault s at t) (row_refusal j r)
  unfolding chain_fault row_refusal
  chain-says f j t e g =
      let id = identity_refusal j.ids r.id r.kind r.overload in
      let times = times_refusal r.deadline gap in
      let counts = counts_refusal j.tasks r.listed r.tasks in
      let head : Says (head_fault s at t) (first_refusal id (first_refusal times counts)) = subst (λ (n : ℕ). Says (head_fault s at t) (first_refusal id (first_refusal times (counts_refusal n r.listed r.tasks)))) g (head-says t j.ids e) in
      subst (Says (head_fault s at t then list_fault s at then largest_fault s at then tasks_fault s (tasks_at s at) (first_task s at)))
      (first_assoc id (first_refusal times counts) (lists_refusal r) ∙ ap (first_refusal id) (first_assoc times counts (lists_refusal r)))
      (says_then head (λ z.
      let c = counts-none j.tasks r.listed r.tasks (refusal-none times counts (refusal-none id (first_refusal times counts) z).1).1 in
      lists-says f c.1 c.2))
