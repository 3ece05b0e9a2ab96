-- A chain record cut out of bytes that have all of it says the same by itself. Assumes nothing.
use Prim.Native.Nat.{ℕ, ◌+◌, ◌≤◌}
use native.Mathlib.Omega.{arith}
use mathlib.Core.Path.{◌≡◌, ap, sym, ◌∙◌}
use mathlib.Core.List.{List}
use lib.ListN.{length, take, drop, length-take, length-drop}
use lib.Seq.{get_or-take, get_or-drop}
use Rattle.table.specs.Bytes.{word}
use Rattle.table.specs.Record.{form_at, id_at, tasks_at, length_at, row_at}
use Rattle.table.specs.Fault.{mark_of}
use Rattle.table.specs.declared.Mark.TheVariants.{Chain}
use Rattle.slices.proofs.Moved.{SameBytes, mark-moved, id-moved, tasks-moved, length_moved, row_moved}
use Rattle.slices.proofs.Parts.{Whole, row_in}

abbrev pub cut_out : List ℕ → ℕ → List ℕ
cut_out s at = take (length_at s at) (drop at s)

module _ (s : List ℕ) (at : ℕ) (there : at + length_at s at ≤ length s) where
  pub cut-long : length (cut_out s at) ≡ length_at s at
  cut-long = simp (length-take, length-drop) (omega arith)

  pub cut-same : SameBytes (cut_out s at) s 0 at (length_at s at)
  unfolding SameBytes
  cut-same i l =
      let e : 0 + i ≡ i = omega arith in
      rw (e, get_or-take (length_at s at) (drop at s) i 0 l) (get_or-drop at s i 0)

  pub cut-row : row_in (cut_out s at) ≡ row_at s at
  cut-row = row_moved (cut_out s at) s 0 at cut-same

  pub cut-form : form_at (cut_out s at) 0 ≡ form_at s at
  cut-form = mark-moved (cut_out s at) s 0 at cut-same

  pub cut-id : id_at (cut_out s at) 0 ≡ id_at s at
  cut-id = id-moved (cut_out s at) s 0 at cut-same

  pub cut-tasks : tasks_at (cut_out s at) 0 ≡ tasks_at s at
  cut-tasks = tasks-moved (cut_out s at) s 0 at cut-same

  pub cut-whole : mark_of (word 2 s at) ≡ Chain → Whole (cut_out s at)
  cut-whole mark = record { mark = ap mark_of cut-form ∙ mark; long = cut-long ∙ sym (length_moved (cut_out s at) s 0 at cut-same) }
