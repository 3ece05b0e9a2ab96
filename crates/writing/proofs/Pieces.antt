-- Pieces one after the other: their length, and one of them among the others; how long a record is. Assumes nothing.
use Prim.Native.Nat.{ℕ, zero, suc, ◌+◌, ◌*◌, ◌-◌, ◌<◌}
use native.Mathlib.Omega.{arith}
use native.Mathlib.Nat.{mul-zero, mul-suc}
use mathlib.Core.Path.{◌≡◌, refl, ap, sym, ◌∙◌}
use mathlib.Core.List.{List, ◌++◌, append_assoc, append-nil}
use lib.ListN.{length, length-append}
use Rattle.table.specs.Bytes.{bytes_of}
use Rattle.table.specs.Place.{length_of}
use Rattle.table.specs.declared.Row.{Row}
use Rattle.table.proofs.Words.{length-bytes}
use Rattle.table.specs.Record.{head_length, task_record, known_of}
use Rattle.writing.specs.Rows.{head_bytes, distance_bytes, task_bytes, pieces, list_bytes, tasks_bytes, row_bytes}
use Rattle.writing.proofs.Forms.{gap_length}

module _ (f : ℕ → List ℕ) where
  -- piece j, with those before it and those after it
  pub pieces-split : (n i j : ℕ) → j < n → pieces f n i ≡ pieces f j i ++ (f (i + j) ++ pieces f (n - (j + 1)) (i + j + 1))
  unfolding pieces
  pieces-split zero i j h = absurd (omega arith)
  pieces-split (suc n) i zero h =
      let a : i + 0 ≡ i = omega arith in
      let b : suc n - (0 + 1) ≡ n = omega arith in
      rw (a, b)
  pieces-split (suc n) i (suc j) h =
      let a : i + suc j ≡ i + 1 + j = omega arith in
      let b : suc n - (suc j + 1) ≡ n - (j + 1) = omega arith in
      ap (λ (l : List ℕ). f i ++ l) (pieces-split n (i + 1) j (omega arith)) ∙ rw (a, b) (sym (append_assoc (f i) (pieces f j (i + 1)) _))

  -- of one length each
  pub pieces-length : (w : ℕ) → ((i : ℕ) → length (f i) ≡ w) → (n i : ℕ) → length (pieces f n i) ≡ w * n
  unfolding pieces
  pieces-length w h zero i = sym (mul-zero w)
  pieces-length w h (suc n) i = length-append (f i) (pieces f n (i + 1)) ∙ omega (arith, h i, pieces-length w h n (i + 1), mul-suc w n)

-- one piece more
pub more-pieces : (f : ℕ → List ℕ) (n i : ℕ) → pieces f (suc n) i ≡ pieces f n i ++ f (i + n)
unfolding pieces
more-pieces f zero i = let e : i + 0 ≡ i = omega arith in rw (e, append-nil)
more-pieces f (suc n) i =
    let e : i + 1 + n ≡ i + suc n = omega arith in
    rw (append_assoc, ← e) (ap (λ l. f i ++ l) (more-pieces f n (i + 1)))

-- How long a record is

pub head-length : (r : Row) → length (head_bytes r) ≡ head_length r.form
unfolding head_bytes
head-length r = simp (length-append, length-bytes, gap_length) (omega arith)

pub task-length : (priority cost : ℕ) → length (task_record priority cost) ≡ 8
unfolding bytes_of
task-length priority cost = refl

pub list_length : (list : List ℕ) (n : ℕ) → length (list_bytes list n) ≡ 4 * n
list_length list n = pieces-length (distance_bytes list) 4 (λ j. length-bytes 4 _) n 0

pub tasks-length : (priority cost : List ℕ) (n : ℕ) → length (tasks_bytes priority cost n) ≡ 8 * n
tasks-length priority cost n = pieces-length (task_bytes priority cost) 8 (λ i. task-length _ _) n 0

pub row-length : (r : Row) → length (row_bytes r) ≡ length_of r
unfolding row_bytes
row-length r =
    rw (
      length-append,
      length-append,
      length-append,
      head-length r,
      list_length r.list r.listed,
      list_length r.largest (known_of r),
      tasks-length r.priority r.cost r.tasks,
    )
