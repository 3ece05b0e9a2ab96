-- What stands where in the bytes of a row. Assumes nothing.
use Prim.Native.Nat.{ℕ, zero, suc, min, ◌+◌, ◌*◌, ◌-◌, ◌^◌, ◌<◌, ◌≤◌}
use native.Mathlib.Omega.{arith}
use mathlib.Core.Path.{◌≡◌, refl, ap, sym, ◌∙◌}
use mathlib.Core.List.{List, [], ◌++◌, append_assoc}
use mathlib.Core.Bool.{Bool, true, false}
use borrow.Author.Tests.{eqb-true, eqb-false}
use lib.Dec.{eqb}
use lib.ListN.{length, get_or, drop, length-append, length-drop}
use lib.Seq.{get_or-drop}
use Rattle.search.specs.Choice.{◌when◌else◌}
use Rattle.table.specs.Bytes.{word, bytes_of}
use Rattle.table.specs.Record.{largest_form, form_at, id_at, kind_at, overload_at, deadline_at, gap_at, flag_at, gap_width, head_length, listed_at, tasks_at, known_of, priority_at, cost_at}
use Rattle.table.specs.Place.{length_of, tasks_start}
use Rattle.table.specs.declared.Row.{Row}
use Rattle.table.proofs.Words.{word_bytes}
use Rattle.writing.specs.Rows.{is_form, form_mark, gap_of, flag_of, gap_bytes, count_byte, head_bytes, distance_bytes, task_bytes, pieces, list_bytes, tasks_bytes, row_bytes, Typed}
use Rattle.writing.proofs.Forms.{mark-own, mark-small, flag-bytes, gap_bytes_holds, gap_length}
use Rattle.writing.proofs.Pieces.{pieces-split, head-length, list_length, tasks-length, row-length}

-- a number of one byte
pub one_byte : (s : List ℕ) (at : ℕ) → word 1 s at ≡ get_or s at 0
unfolding word
one_byte s at = omega arith

-- a number that stands after so many bytes
found : (n x : ℕ) (l before rest : List ℕ) (at : ℕ) → l ≡ before ++ (bytes_of n x ++ rest) → length before ≡ at → x < 256 ^ n → word n l at ≡ x
found n x l before rest at e f h = rw (e, ← f) (word_bytes n x before rest h)

-- a distance of a list that stands there
found-distance : (list : List ℕ) (n : ℕ) (l before rest : List ℕ) (at : ℕ) → l ≡ before ++ (list_bytes list n ++ rest) → length before ≡ at
    → (j : ℕ) → j < n → get_or list j 0 < 256 ^ 4 → word 4 l (at + 4 * j) ≡ get_or list j 0
found-distance list n l before rest at e f j h small =
    let d = distance_bytes list in
    let z : 0 + j ≡ j = omega arith in
    let after = pieces d (n - (j + 1)) (0 + j + 1) in
    let from : l ≡ (before ++ pieces d j 0) ++ (d j ++ (after ++ rest)) =
    e ∙ ap (λ (m : List ℕ). before ++ (m ++ rest)) (pieces-split d n 0 j h ∙ ap (λ (i : ℕ). pieces d j 0 ++ (d i ++ after)) z) ∙ simp append_assoc in
    found 4 (get_or list j 0) l (before ++ pieces d j 0) _ (at + 4 * j) from (length-append before (pieces d j 0) ∙ omega (arith, f, list_length list j)) small

-- the fixed part, whatever follows it
module _ (r : Row) (rest : List ℕ) where
  abbrev all : List ℕ
  all = head_bytes r ++ rest

  -- the fields up to one, and from it on
  abbrev up_to-id : List ℕ
  up_to-id = bytes_of 2 (form_mark r.form)

  abbrev up_to-kind : List ℕ
  up_to-kind = up_to-id ++ bytes_of 2 r.id

  abbrev up_to-overload : List ℕ
  up_to-overload = up_to-kind ++ bytes_of 1 r.kind

  abbrev up_to-deadline : List ℕ
  up_to-deadline = up_to-overload ++ bytes_of 1 r.overload

  abbrev up_to-gap : List ℕ
  up_to-gap = up_to-deadline ++ bytes_of 4 r.deadline

  abbrev of_gap : List ℕ
  of_gap = gap_bytes r.form r.flag r.gap

  abbrev up_to-listed : List ℕ
  up_to-listed = up_to-gap ++ of_gap

  abbrev up_to-tasks : List ℕ
  up_to-tasks = up_to-listed ++ count_byte r.listed

  from-tasks : all ≡ up_to-tasks ++ (count_byte r.tasks ++ rest)
  unfolding head_bytes
  from-tasks = append_assoc up_to-tasks (count_byte r.tasks) rest

  from-listed : all ≡ up_to-listed ++ (count_byte r.listed ++ (count_byte r.tasks ++ rest))
  from-listed = from-tasks ∙ append_assoc up_to-listed (count_byte r.listed) _

  abbrev after-gap : List ℕ
  after-gap = count_byte r.listed ++ (count_byte r.tasks ++ rest)

  from-gap : all ≡ up_to-gap ++ (of_gap ++ after-gap)
  from-gap = from-listed ∙ append_assoc up_to-gap of_gap _

  abbrev after-overload : List ℕ
  after-overload = bytes_of 4 r.deadline ++ (of_gap ++ after-gap)

  from-deadline : all ≡ up_to-deadline ++ after-overload
  from-deadline = from-gap ∙ append_assoc up_to-deadline (bytes_of 4 r.deadline) _

  from-overload : all ≡ up_to-overload ++ (bytes_of 1 r.overload ++ after-overload)
  from-overload = from-deadline ∙ append_assoc up_to-overload (bytes_of 1 r.overload) _

  from-kind : all ≡ up_to-kind ++ (bytes_of 1 r.kind ++ (bytes_of 1 r.overload ++ after-overload))
  from-kind = from-overload ∙ append_assoc up_to-kind (bytes_of 1 r.kind) _

  from-id : all ≡ up_to-id ++ (bytes_of 2 r.id ++ (bytes_of 1 r.kind ++ (bytes_of 1 r.overload ++ after-overload)))
  from-id = from-kind ∙ append_assoc up_to-id (bytes_of 2 r.id) _

  mark-here : word 2 all 0 ≡ form_mark r.form
  mark-here = found 2 (form_mark r.form) all [] _ 0 from-id refl (mark-small r.form)

  module _ (f : Typed r) where
    id-here : word 2 all 2 ≡ r.id
    unfolding bytes_of
    id-here = found 2 r.id all up_to-id _ 2 from-id refl f.id

    kind-here : get_or all 4 0 ≡ r.kind
    unfolding bytes_of
    kind-here = sym (one_byte all 4) ∙ found 1 r.kind all up_to-kind _ 4 from-kind refl f.kind

    overload-here : get_or all 5 0 ≡ r.overload
    unfolding bytes_of
    overload-here = sym (one_byte all 5) ∙ found 1 r.overload all up_to-overload _ 5 from-overload refl f.overload

    deadline-here : word 4 all 6 ≡ r.deadline
    unfolding bytes_of
    deadline-here = found 4 r.deadline all up_to-deadline _ 6 from-deadline refl f.deadline

    gap_here : (r.form ≡ largest_form → ⊥) → word 4 all 10 ≡ r.gap
    unfolding bytes_of
    gap_here h = found 4 r.gap all up_to-gap after-gap 10 (from-gap ∙ ap (λ (g : List ℕ). up_to-gap ++ (g ++ after-gap)) (gap_bytes_holds r.form r.flag r.gap h)) refl f.gap

    flag-here : r.form ≡ largest_form → get_or all 10 0 ≡ r.flag
    unfolding bytes_of
    flag-here e = sym (one_byte all 10)
        ∙ found 1 r.flag all up_to-gap after-gap 10 (from-gap ∙ ap (λ (g : List ℕ). up_to-gap ++ (g ++ after-gap)) (flag-bytes r.form r.flag r.gap e)) refl f.flag

  before-listed : length up_to-listed ≡ 10 + gap_width r.form
  unfolding bytes_of
  before-listed = length-append up_to-gap of_gap ∙ ap (λ (n : ℕ). 10 + n) (gap_length r.form r.flag r.gap)

  listed_here : get_or all (10 + gap_width r.form) 0 ≡ min r.listed 255
  listed_here = sym (one_byte all (10 + gap_width r.form)) ∙ found 1 (min r.listed 255) all up_to-listed _ (10 + gap_width r.form) from-listed before-listed (omega arith)

  tasks-here : get_or all (11 + gap_width r.form) 0 ≡ min r.tasks 255
  unfolding bytes_of
  tasks-here =
      let long : length up_to-tasks ≡ 11 + gap_width r.form = length-append up_to-listed (count_byte r.listed) ∙ omega (arith, before-listed) in
      sym (one_byte all (11 + gap_width r.form)) ∙ found 1 (min r.tasks 255) all up_to-tasks _ (11 + gap_width r.form) from-tasks long (omega arith)

-- after how many bytes of a row's record its largest distances start
abbrev pub largest_start : Row → ℕ
largest_start r = head_length r.form + 4 * r.listed

-- the whole record, whatever follows it
module _ (r : Row) (post : List ℕ) where
  abbrev whole : List ℕ
  whole = row_bytes r ++ post

  abbrev of_list : List ℕ
  of_list = list_bytes r.list r.listed

  abbrev of_largest : List ℕ
  of_largest = list_bytes r.largest (known_of r)

  abbrev of_tasks : List ℕ
  of_tasks = tasks_bytes r.priority r.cost r.tasks

  -- up to the largest distances, and up to the tasks
  abbrev up_to-largest : List ℕ
  up_to-largest = head_bytes r ++ of_list

  abbrev up_to-first : List ℕ
  up_to-first = up_to-largest ++ of_largest

  from_first : whole ≡ up_to-first ++ (of_tasks ++ post)
  unfolding row_bytes
  from_first = append_assoc up_to-first of_tasks post

  from-largest : whole ≡ up_to-largest ++ (of_largest ++ (of_tasks ++ post))
  from-largest = from_first ∙ append_assoc up_to-largest of_largest (of_tasks ++ post)

  from_list : whole ≡ head_bytes r ++ (of_list ++ (of_largest ++ (of_tasks ++ post)))
  from_list = from-largest ∙ append_assoc (head_bytes r) of_list (of_largest ++ (of_tasks ++ post))

  before-largest : length up_to-largest ≡ largest_start r
  before-largest = length-append (head_bytes r) of_list ∙ omega (arith, head-length r, list_length r.list r.listed)

  module _ (f : Typed r) where
    distance-here : (j : ℕ) → j < r.listed → word 4 whole (head_length r.form + 4 * j) ≡ get_or r.list j 0
    distance-here j h = found-distance r.list r.listed whole (head_bytes r) _ (head_length r.form) from_list (head-length r) j h (f.list j)

    largest-here : (j : ℕ) → j < known_of r → word 4 whole (largest_start r + 4 * j) ≡ get_or r.largest j 0
    largest-here j h = found-distance r.largest (known_of r) whole up_to-largest _ (largest_start r) from-largest before-largest j h (f.largest j)

    module _ (i : ℕ) (h : i < r.tasks) where
      abbrev start : ℕ
      start = tasks_start r + 8 * i

      abbrev p : ℕ
      p = get_or r.priority i 0

      abbrev c : ℕ
      c = get_or r.cost i 0

      abbrev before-task : List ℕ
      before-task = up_to-first ++ tasks_bytes r.priority r.cost i

      abbrev after-task : List ℕ
      after-task = pieces (task_bytes r.priority r.cost) (r.tasks - (i + 1)) (0 + i + 1) ++ post

      before-long : length before-task ≡ start
      before-long =
          length-append up_to-first (tasks_bytes r.priority r.cost i)
          ∙ omega (arith, length-append up_to-largest of_largest, before-largest, list_length r.largest (known_of r), tasks-length r.priority r.cost i)

      from-task : whole ≡ before-task ++ (bytes_of 2 19284 ++ (bytes_of 2 p ++ (bytes_of 4 c ++ after-task)))
      from-task =
          let g = task_bytes r.priority r.cost in
          let z : 0 + i ≡ i = omega arith in
          from_first ∙ ap (λ (l : List ℕ). up_to-first ++ (l ++ post))
          (pieces-split g r.tasks 0 i h ∙ ap (λ (k : ℕ). pieces g i 0 ++ (g k ++ pieces g (r.tasks - (i + 1)) (0 + i + 1))) z) ∙ simp append_assoc

      task-mark-here : word 2 whole start ≡ 19284
      task-mark-here = found 2 19284 whole before-task _ start from-task before-long (omega arith)

      priority-here : word 2 whole (start + 2) ≡ p
      unfolding bytes_of
      priority-here = found 2 p whole (before-task ++ bytes_of 2 19284) _ (start + 2) (from-task ∙ sym (append_assoc before-task (bytes_of 2 19284) _))
          (length-append before-task (bytes_of 2 19284) ∙ ap (λ (n : ℕ). n + 2) before-long) (f.priority i)

      cost-here : word 4 whole (start + 4) ≡ c
      unfolding bytes_of
      cost-here =
          let marked = before-task ++ bytes_of 2 19284 in
          found 4 c whole (marked ++ bytes_of 2 p) _ (start + 4) (from-task ∙ sym (append_assoc before-task (bytes_of 2 19284) _) ∙ sym (append_assoc marked (bytes_of 2 p) _))
          (length-append marked (bytes_of 2 p) ∙ omega (arith, length-append before-task (bytes_of 2 19284), before-long)) (f.cost i)

-- A row stored at `at`, its form being one of the two

pub record Stored (s : List ℕ) (at : ℕ) (r : Row) : Type 0 where
  pub there : at + length_of r ≤ length s
  pub form : form_at s at ≡ r.form
  pub id : id_at s at ≡ r.id
  pub kind : kind_at s at ≡ r.kind
  pub overload : overload_at s at ≡ r.overload
  pub deadline : deadline_at s at ≡ r.deadline
  pub gap : gap_at s at ≡ gap_of r.form r.gap
  pub flag : flag_at s at ≡ flag_of r.form r.flag
  pub listed : listed_at s at ≡ min r.listed 255
  pub tasks : tasks_at s at ≡ min r.tasks 255
  pub distance : (j : ℕ) → j < r.listed → word 4 s (at + head_length r.form + 4 * j) ≡ get_or r.list j 0
  pub largest : (j : ℕ) → j < known_of r → word 4 s (at + largest_start r + 4 * j) ≡ get_or r.largest j 0
  pub task_mark : (i : ℕ) → i < r.tasks → word 2 s (at + tasks_start r + 8 * i) ≡ 19284
  pub priority : (i : ℕ) → i < r.tasks → priority_at s (at + tasks_start r + 8 * i) ≡ get_or r.priority i 0
  pub cost : (i : ℕ) → i < r.tasks → cost_at s (at + tasks_start r + 8 * i) ≡ get_or r.cost i 0

-- what is read from a place on is what stands there
pub word-there : (n : ℕ) (s l : List ℕ) (at o p : ℕ) → drop at s ≡ l → p ≡ at + o → word n s p ≡ word n l o
unfolding word
word-there zero s l at o p d e = refl
word-there (suc n) s l at o p d e =
    let a : get_or s p 0 ≡ get_or l o 0 = rw (e, ← d) (sym (get_or-drop at s o 0)) in
    let b = word-there n s l at (o + 1) (p + 1) d (omega arith) in
    rw (a, b)

byte-there : (s l : List ℕ) (at o p : ℕ) → drop at s ≡ l → p ≡ at + o → get_or s p 0 ≡ get_or l o 0
byte-there s l at o p d e = rw (e, ← d) (sym (get_or-drop at s o 0))

module _ (s : List ℕ) (at : ℕ) (r : Row) (post : List ℕ) (d : drop at s ≡ row_bytes r ++ post) where
  abbrev l : List ℕ
  l = row_bytes r ++ post

  abbrev tail : List ℕ
  tail = list_bytes r.list r.listed ++ (list_bytes r.largest (known_of r) ++ (tasks_bytes r.priority r.cost r.tasks ++ post))

  head_first : l ≡ head_bytes r ++ tail
  head_first = from_list r post

  -- its mark, of whatever form it is
  pub mark-stored : word 2 s at ≡ form_mark r.form
  mark-stored = word-there 2 s l at 0 at d (omega arith) ∙ ap (λ (m : List ℕ). word 2 m 0) head_first ∙ mark-here r tail

  pub row-there : at ≤ length s → at + length_of r ≤ length s
  row-there in-s = omega (arith, length-drop at s, ap length d, length-append (row_bytes r) post, row-length r)

  module _ (f : Typed r) (is : is_form r.form ≡ true) where
    form-stored : form_at s at ≡ r.form
    form-stored = mark-stored ∙ mark-own r.form is

    gap-stored : gap_at s at ≡ gap_of r.form r.gap
    unfolding gap_at gap_of ◌when◌else◌
    gap-stored = rw form-stored (by (eqb r.form largest_form) refl)
      where
        by : (b : Bool) → eqb r.form largest_form ≡ b → (0 when b else word 4 s (at + 10)) ≡ (0 when b else r.gap)
        by true e = refl
        by false e = word-there 4 s l at 10 (at + 10) d refl ∙ ap (λ (m : List ℕ). word 4 m 10) head_first ∙ gap_here r tail f (eqb-false r.form largest_form e)

    flag-stored : flag_at s at ≡ flag_of r.form r.flag
    unfolding flag_at flag_of ◌when◌else◌
    flag-stored = rw form-stored (by (eqb r.form largest_form) refl)
      where
        by : (b : Bool) → eqb r.form largest_form ≡ b → (get_or s (at + 10) 0 when b else 0) ≡ (r.flag when b else 0)
        by true e = byte-there s l at 10 (at + 10) d refl ∙ ap (λ (m : List ℕ). get_or m 10 0) head_first ∙ flag-here r tail f (eqb-true r.form largest_form e)
        by false e = refl

    listed-stored : listed_at s at ≡ min r.listed 255
    listed-stored =
        let o = 10 + gap_width r.form in
        rw form-stored (byte-there s l at o (at + o) d refl ∙ ap (λ (m : List ℕ). get_or m o 0) head_first ∙ listed_here r tail)

    tasks-stored : tasks_at s at ≡ min r.tasks 255
    tasks-stored =
        let o = 11 + gap_width r.form in
        rw form-stored (byte-there s l at o (at + o) d refl ∙ ap (λ (m : List ℕ). get_or m o 0) head_first ∙ tasks-here r tail)

    pub stored : at ≤ length s → Stored s at r
    stored in-s = record {
      there = row-there in-s;
      form = form-stored;
      id = word-there 2 s l at 2 (at + 2) d refl ∙ ap (λ (m : List ℕ). word 2 m 2) head_first ∙ id-here r tail f;
      kind = byte-there s l at 4 (at + 4) d refl ∙ ap (λ (m : List ℕ). get_or m 4 0) head_first ∙ kind-here r tail f;
      overload = byte-there s l at 5 (at + 5) d refl ∙ ap (λ (m : List ℕ). get_or m 5 0) head_first ∙ overload-here r tail f;
      deadline = word-there 4 s l at 6 (at + 6) d refl ∙ ap (λ (m : List ℕ). word 4 m 6) head_first ∙ deadline-here r tail f;
      gap = gap-stored;
      flag = flag-stored;
      listed = listed-stored;
      tasks = tasks-stored;
      distance = λ j h. word-there 4 s l at (head_length r.form + 4 * j) (at + head_length r.form + 4 * j) d (omega arith) ∙ distance-here r post f j h;
      largest = λ j h. word-there 4 s l at (largest_start r + 4 * j) (at + largest_start r + 4 * j) d (omega arith) ∙ largest-here r post f j h;
      task_mark = λ i h. word-there 2 s l at (tasks_start r + 8 * i) (at + tasks_start r + 8 * i) d (omega arith) ∙ task-mark-here r post f i h;
      priority = λ i h. word-there 2 s l at (tasks_start r + 8 * i + 2) (at + tasks_start r + 8 * i + 2) d (omega arith) ∙ priority-here r post f i h;
      cost = λ i h. word-there 4 s l at (tasks_start r + 8 * i + 4) (at + tasks_start r + 8 * i + 4) d (omega arith) ∙ cost-here r post f i h;
    }
