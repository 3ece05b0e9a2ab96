-- The record of a converted chain is made of parts of its own record, but for the mark, the gap or flag and the largest distances. Assumes
-- nothing.
use Prim.Native.Nat.{ℕ, ◌+◌, ◌*◌, ◌-◌}
use native.Mathlib.Omega.{arith}
use mathlib.Core.Path.{◌≡◌, refl, ap, sym, ◌∙◌}
use mathlib.Core.List.{List, ◌++◌, append_assoc}
use mathlib.Core.Bool.{true}
use lib.ListN.{length, take, drop, length-append, length-drop}
use lib.Seq.{length-take-le}
use Rattle.table.specs.Bytes.{bytes_of, Bytes}
use Rattle.table.specs.Record.{form_at, gap_width, head_length, listed_at, tasks_at, list_place, first_task, row_at, known_of}
use Rattle.table.specs.Place.{length_of}
use Rattle.table.specs.declared.Row.{Row}
use Rattle.table.proofs.Words.{take_next, length-bytes}
use Rattle.writing.specs.Rows.{is_form, form_mark, gap_bytes, head_bytes, list_bytes, row_bytes}
use Rattle.writing.proofs.Forms.{mark-own, gap_length}
use Rattle.writing.proofs.Again.{number, byte, count, list-again, tasks-again}
use Rattle.converting.specs.Forms.{in_form, form_of, converted}
use Rattle.converting.specs.Code.Copied.{Marked, start_bytes}
use Rattle.converting.specs.declared.To.{To}
use Rattle.converting.specs.declared.To.TheVariants.{Largest, Gap}

-- a part after another one, as one part
joined : (s before : List ℕ) (p n m q : ℕ) → q ≡ p + n → before ++ take n (drop p s) ++ take m (drop q s) ≡ before ++ take (n + m) (drop p s)
joined s before p n m q e = append_assoc before _ _ ∙ ap (λ (l : List ℕ). before ++ l) (ap (λ k. take n (drop p s) ++ take m (drop k s)) e ∙ sym (take_next s p n m))

-- of a record the part from its counts to the end of its list, and its tasks
abbrev pub middle : List ℕ → ℕ → List ℕ
middle s at = take (2 + 4 * listed_at s at) (drop (list_place s at - 2) s)

abbrev pub tasks : List ℕ → ℕ → List ℕ
tasks s at = take (8 * tasks_at s at) (drop (first_task s at) s)

module _ (s : List ℕ) (bytes : Bytes s) (at : ℕ) (here : Marked s at) where
  abbrev r : Row
  r = row_at s at

  abbrev list : ℕ
  list = list_place s at

  abbrev n : ℕ
  n = listed_at s at

  -- in any form, with any flag, gap and largest distances
  module _ (form flag gap : ℕ) (largest : List ℕ) (ok : is_form form ≡ true) where
    abbrev to : Row
    to = in_form r form flag gap largest

    abbrev start : List ℕ
    start = bytes_of 2 form ++ take 8 (drop (at + 2) s) ++ gap_bytes form flag gap

    abbrev place : ℕ
    place = at + (10 + gap_width (form_at s at))

    fields : bytes_of 2 form ++ take 2 (drop (at + 2) s) ++ take 1 (drop (at + 4) s) ++ take 1 (drop (at + 5) s) ++ take 4 (drop (at + 6) s) ≡ bytes_of 2 form ++ take 8 (drop (at + 2) s)
    fields =
        ap (λ (l : List ℕ). l ++ take 1 (drop (at + 5) s) ++ take 4 (drop (at + 6) s)) (joined s (bytes_of 2 form) (at + 2) 2 1 (at + 4) (omega arith))
        ∙ ap (λ (l : List ℕ). l ++ take 4 (drop (at + 6) s)) (joined s (bytes_of 2 form) (at + 2) 3 1 (at + 5) (omega arith))
        ∙ joined s (bytes_of 2 form) (at + 2) 4 4 (at + 6) (omega arith)

    before : place ≡ list - 2
    before = omega arith

    counts : start ++ take 1 (drop place s) ++ take 1 (drop (at + (11 + gap_width (form_at s at))) s) ++ take (4 * n) (drop list s) ≡ start ++ middle s at
    counts =
        ap (λ (l : List ℕ). l ++ take (4 * n) (drop list s)) (joined s start place 1 1 (at + (11 + gap_width (form_at s at))) (omega arith))
        ∙ joined s start place 2 (4 * n) list (omega arith)
        ∙ ap (λ p. start ++ take (2 + 4 * n) (drop p s)) before

    begins : head_bytes to ++ list_bytes to.list to.listed ≡ start ++ middle s at
    unfolding head_bytes row_at
    begins =
        let mark : bytes_of 2 (form_mark form) ≡ bytes_of 2 form = ap (bytes_of 2) (mark-own form ok) in
        rw (
          mark,
          number s bytes 2 (at + 2) (omega (arith, here.stands.there)),
          byte s bytes (at + 4) (omega (arith, here.stands.there)),
          byte s bytes (at + 5) (omega (arith, here.stands.there)),
          number s bytes 4 (at + 6) (omega (arith, here.stands.there)),
          count s bytes (at + (10 + gap_width (form_at s at))) (omega (arith, here.stands.there)),
          count s bytes (at + (11 + gap_width (form_at s at))) (omega (arith, here.stands.there)),
          list-again s bytes at here.stands.there here.mark here.tasks,
        )
        (ap (λ (l : List ℕ). l ++ gap_bytes form flag gap ++ take 1 (drop place s) ++ take 1 (drop (at + (11 + gap_width (form_at s at))) s) ++ take (4 * n) (drop list s)) fields ∙ counts)

    pub whole : row_bytes to ≡ start ++ middle s at ++ list_bytes largest (known_of to) ++ tasks s at
    unfolding row_bytes row_at
    whole = rw (tasks-again s bytes at here.stands.there here.mark here.tasks) (ap (λ (l : List ℕ). l ++ list_bytes largest (known_of to) ++ tasks s at) begins)

  -- in the form asked
  pub converted-whole : (to : To) → row_bytes (converted to r) ≡ start_bytes to s at ++ middle s at ++ list_bytes (converted to r).largest (known_of (converted to r)) ++ tasks s at
  converted-whole Largest = whole (form_of Largest) (converted Largest r).flag (converted Largest r).gap (converted Largest r).largest refl
  converted-whole Gap = whole (form_of Gap) (converted Gap r).flag (converted Gap r).gap (converted Gap r).largest refl

  -- how long its start is
  pub start-length : (to : To) → length (start_bytes to s at) ≡ 10 + gap_width (form_of to)
  start-length to =
      let e = length-append (bytes_of 2 (form_of to) ++ take 8 (drop (at + 2) s)) (gap_bytes (form_of to) (converted to r).flag (converted to r).gap) in
      let f = length-append (bytes_of 2 (form_of to)) (take 8 (drop (at + 2) s)) in
      let eight : length (take 8 (drop (at + 2) s)) ≡ 8 = length-take-le 8 (drop (at + 2) s) (omega (arith, length-drop (at + 2) s, here.stands.there)) in
      omega (arith, e, f, eight, length-bytes 2 (form_of to), gap_length (form_of to) (converted to r).flag (converted to r).gap)

-- how long its record is
pub converted-length : (to : To) (r : Row) → length_of (converted to r) ≡ head_length (form_of to) + 4 * r.listed + 4 * known_of (converted to r) + 8 * r.tasks
converted-length Largest r = refl
converted-length Gap r = refl
