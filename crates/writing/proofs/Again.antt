-- The rows of an accepted table give its bytes again. Assumes nothing.
use Prim.Native.Nat.{ℕ, zero, suc, min, ◌+◌, ◌*◌, ◌<◌, ◌≤◌}
use native.Mathlib.Omega.{arith}
use native.Mathlib.Nat.{mul-suc}
use mathlib.Core.Path.{◌≡◌, ap, sym, subst, ◌∙◌}
use mathlib.Core.List.{List, [], ◌++◌, map, flatten}
use mathlib.Core.Bool.{Bool, true, false}
use lib.Dec.{eqb}
use lib.ListN.{length, get_or, take, drop, length-map, length-take}
use lib.Seq.{ext_get_or, get_or-take}
use Rattle.search.specs.Choice.{◌when◌else◌}
use Rattle.table.specs.Bytes.{word, bytes_of, Bytes}
use Rattle.table.specs.Record.{largest_form, form_at, gap_at, flag_at, gap_width, head_length, listed_at, tasks_at, list_place, known_at, largest_place, first_task, length_at, end_record, row_at, blank}
use Rattle.table.specs.Find.{row_of, rows}
use Rattle.table.specs.Fault.{mark_of}
use Rattle.table.specs.Place.{length_of, place_of}
use Rattle.table.specs.Read.{accepted, read_table, table_of}
use Rattle.table.specs.Code.Taken.{Taken}
use Rattle.table.specs.declared.Row.{Row}
use Rattle.table.specs.declared.Table.{Table}
use Rattle.table.specs.declared.Mark.TheVariants.{Chain, Task}
use Rattle.std.specs.declared.result.Result.TheVariants.{Ok}
use Rattle.table.specs.Refusal.{Verdict}
use Rattle.table.proofs.Marks.{task-there}
use Rattle.table.proofs.Words.{word_back, take_next}
use Rattle.table.proofs.Accepted.{taken}
use Rattle.table.proofs.Stands.{list_at, largest-at, priority-at, cost-at}
use Rattle.slices.specs.Stored.{record_of}
use Rattle.slices.proofs.Parts.{map_at}
use Rattle.slices.proofs.Stored.{record_is}
use Rattle.slices.proofs.Records.{records_from, length-records, records-at, parts-of}
use Rattle.slices.proofs.Ends.{end-stored}
use Rattle.writing.specs.Rows.{form_mark, gap_bytes, count_byte, head_bytes, distance_bytes, task_bytes, pieces, list_bytes, tasks_bytes, row_bytes, table_bytes}
use Rattle.writing.proofs.Forms.{mark-own, chain-is}
use Rattle.writing.proofs.Pieces.{more-pieces}
use Rattle.writing.proofs.Fields.{one_byte}

-- pieces that are the bytes from a place on
pieces-again : (s : List ℕ) (f : ℕ → List ℕ) (w p n : ℕ) → ((j : ℕ) → j < n → f j ≡ take w (drop (p + w * j) s)) → pieces f n 0 ≡ take (w * n) (drop p s)
unfolding pieces
pieces-again s f w p zero h = let e : w * 0 ≡ 0 = omega arith in rw e
pieces-again s f w p (suc n) h =
    let z : 0 + n ≡ n = omega arith in
    let e : w * suc n ≡ w * n + w = omega (arith, mul-suc w n) in
    more-pieces f n 0 ∙ rw (z, e, h n (omega arith), pieces-again s f w p n (λ j l. h j (omega arith)), take_next s p (w * n) w)

module _ (s : List ℕ) (bytes : Bytes s) where
  -- a number's bytes, and one byte's
  pub number : (n p : ℕ) → p + n ≤ length s → bytes_of n (word n s p) ≡ take n (drop p s)
  number n p h = word_back n s p bytes h

  pub byte : (p : ℕ) → p + 1 ≤ length s → bytes_of 1 (get_or s p 0) ≡ take 1 (drop p s)
  byte p h = ap (bytes_of 1) (sym (one_byte s p)) ∙ number 1 p h

  pub count : (p : ℕ) → p + 1 ≤ length s → count_byte (get_or s p 0) ≡ take 1 (drop p s)
  count p h = let e : min (get_or s p 0) 255 ≡ get_or s p 0 = omega (arith, bytes p) in ap (bytes_of 1) e ∙ byte p h

  -- the gap, or the flag in its place
  gap-again : (at : ℕ) → at + 10 + gap_width (form_at s at) ≤ length s → gap_bytes (form_at s at) (flag_at s at) (gap_at s at) ≡ take (gap_width (form_at s at)) (drop (at + 10) s)
  unfolding gap_bytes flag_at gap_at gap_width ◌when◌else◌
  gap-again at = by (eqb (form_at s at) largest_form)
    where
      by : (b : Bool) → at + 10 + (1 when b else 4) ≤ length s
          → (bytes_of 1 (get_or s (at + 10) 0 when b else 0) when b else bytes_of 4 (0 when b else word 4 s (at + 10))) ≡ take (1 when b else 4) (drop (at + 10) s)
      by true h = byte (at + 10) h
      by false h = number 4 (at + 10) h

  -- a whole chain record, its marks right
  module _ (at : ℕ) (there : at + length_at s at ≤ length s) (mark : mark_of (word 2 s at) ≡ Chain) (marks : (i : ℕ) → i < tasks_at s at → mark_of (word 2 s (first_task s at + 8 * i)) ≡ Task) where
    abbrev r : Row
    r = row_at s at

    abbrev width : ℕ
    width = gap_width (form_at s at)

    head-again : head_bytes r ≡ take (head_length (form_at s at)) (drop at s)
    unfolding head_bytes row_at
    head-again =
        let first : bytes_of 2 (form_mark (form_at s at)) ≡ take 2 (drop at s) = ap (bytes_of 2) (mark-own (form_at s at) (chain-is (form_at s at) mark)) ∙ number 2 at (omega arith) in
        let all : head_length (form_at s at) ≡ 10 + width + 1 + 1 = omega arith in
        let last : at + (10 + width + 1) ≡ at + (11 + width) = omega arith in
        rw (
          all,
          first,
          number 2 (at + 2) (omega arith),
          byte (at + 4) (omega arith),
          byte (at + 5) (omega arith),
          number 4 (at + 6) (omega arith),
          gap-again at (omega arith),
          count (at + (10 + width)) (omega arith),
          count (at + (11 + width)) (omega arith),
        )
        (sym (take_next s at (10 + width + 1) 1
        ∙ rw (last, take_next s at (10 + width) 1, take_next s at 10 width, take_next s at 6 4, take_next s at 5 1, take_next s at 4 1, take_next s at 2 2)))

    pub list-again : list_bytes r.list (listed_at s at) ≡ take (4 * listed_at s at) (drop (list_place s at) s)
    list-again = pieces-again s (distance_bytes r.list) 4 (list_place s at) (listed_at s at)
        (λ j h. ap (bytes_of 4) (list_at s at j h) ∙ number 4 (list_place s at + 4 * j) (omega (arith, there, h)))

    largest-again : list_bytes r.largest (known_at s at) ≡ take (4 * known_at s at) (drop (largest_place s at) s)
    largest-again = pieces-again s (distance_bytes r.largest) 4 (largest_place s at) (known_at s at)
        (λ j h. ap (bytes_of 4) (largest-at s at j h) ∙ number 4 (largest_place s at + 4 * j) (omega (arith, there, h)))

    task-again : (i : ℕ) → i < tasks_at s at → task_bytes r.priority r.cost i ≡ take 8 (drop (first_task s at + 8 * i) s)
    task-again i h =
        let q = first_task s at + 8 * i in
        rw (priority-at s at i h, cost-at s at i h) (sym (task-there s q bytes (omega (arith, there, h)) (marks i h)))

    pub tasks-again : tasks_bytes r.priority r.cost (tasks_at s at) ≡ take (8 * tasks_at s at) (drop (first_task s at) s)
    tasks-again = pieces-again s (task_bytes r.priority r.cost) 8 (first_task s at) (tasks_at s at) task-again

    -- its row's bytes are its own
    row-again : row_bytes r ≡ take (length_at s at) (drop at s)
    unfolding row_bytes row_at
    row-again =
        let h = head_length (form_at s at) in
        let n = 4 * listed_at s at in
        let k = 4 * known_at s at in
        let p : largest_place s at ≡ at + (h + n) = omega arith in
        let q : first_task s at ≡ at + (h + n + k) = omega arith in
        rw (head-again, list-again, largest-again, tasks-again, q, p)
        (sym (take_next s at (h + n + k) (8 * tasks_at s at) ∙ rw (take_next s at (h + n) k, take_next s at h n)))

-- an accepted table
module _ (s : List ℕ) (bytes : Bytes s) (verdict : (read_table s).verdict ≡ Ok tt) where
  abbrev t : Table
  t = table_of s

  read : read_table s ≡ accepted t
  read = ap (λ (v : Verdict). record { verdict = v; table = t }) verdict

  whole : Taken s
  whole = taken s bytes verdict

  record_again : (chain : ℕ) → chain < t.count → row_bytes (row_of t chain) ≡ record_of s chain
  unfolding row_at
  record_again chain h =
      let at = place_of t chain in
      let makes = whole.holds.makes chain h in
      let size : length_at s at ≡ length_of (row_of t chain) = ap length_of makes in
      let marks : (i : ℕ) → i < tasks_at s at → mark_of (word 2 s (first_task s at + 8 * i)) ≡ Task = λ i l. whole.holds.task_marks chain h i (subst (λ (r : Row). i < r.tasks) makes l) in
      ap row_bytes (sym makes)
      ∙ row-again s bytes at (omega (arith, whole.holds.inside chain h, size)) (whole.holds.marks chain h) marks
      ∙ ap (λ (n : ℕ). take n (drop at s)) size ∙ sym (record_is s t read chain)

  records-again : map row_bytes (rows t) ≡ records_from s t.count 0
  records-again =
      let n : length (rows t) ≡ t.count = length-take t.count t.row ∙ omega (arith, whole.good.few, whole.good.size) in
      let m = length-map (rows t) row_bytes ∙ n in
      ext_get_or [] (map row_bytes (rows t)) (records_from s t.count 0) (m ∙ sym (length-records s t.count 0))
      (λ j h. let l : j < t.count = omega (arith, h, m) in
      let z : 0 + j ≡ j = omega arith in
      map_at row_bytes (rows t) j blank [] (omega (arith, l, n)) ∙ ap row_bytes (get_or-take t.count t.row j blank l) ∙ record_again j l ∙ sym (records-at s t.count 0 j l ∙ ap (record_of s) z))

  pub table-again : table_bytes (rows t) ≡ s
  unfolding table_bytes
  table-again =
      let n : length (rows t) ≡ t.count = length-take t.count t.row ∙ omega (arith, whole.good.few, whole.good.size) in
      ap (λ (l : List (List ℕ)). flatten l ++ end_record (length (rows t))) records-again
      ∙ ap (λ (k : ℕ). flatten (records_from s t.count 0) ++ end_record k) n
      ∙ ap (λ (e : List ℕ). flatten (records_from s t.count 0) ++ e) (end-stored s bytes verdict) ∙ sym (parts-of s t read bytes).bytes
