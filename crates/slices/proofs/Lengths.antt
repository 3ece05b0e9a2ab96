-- How long a record can be, by its form. Assumes nothing.
use Prim.Native.Nat.{ℕ, ◌+◌, ◌*◌, ◌≤◌}
use native.Mathlib.Omega.{arith}
use mathlib.Core.Path.{◌≡◌}
use mathlib.Core.Logic.{◌⊎◌, inl, inr, ⊎_elim}
use borrow.Author.Tests.{eqb-true, eqb-false}
use lib.Dec.{eqb}
use Rattle.search.proofs.Choice.{true_or_false}
use Rattle.table.specs.Limits.{max_distances}
use Rattle.table.specs.Record.{largest_form, record_length}
use Rattle.table.proofs.Forms.{wide, narrow, known-lacks}
use Rattle.table.proofs.Widths.{known-most}

-- `CG`, or another form
pub form_or : (form : ℕ) → (form ≡ largest_form) ⊎ (form ≡ largest_form → ⊥)
form_or form = ⊎_elim (λ e. inl (eqb-true form largest_form e)) (λ e. inr (eqb-false form largest_form e)) (true_or_false (eqb form largest_form))

module _ (form flag listed tasks : ℕ) (few : listed ≤ max_distances) where
  pub gap_record : (form ≡ largest_form → ⊥) → record_length form flag listed tasks ≤ 48 + 8 * tasks
  gap_record h = omega (arith, wide form h, known-lacks form flag listed h)

  pub any_record : record_length form flag listed tasks ≤ 77 + 8 * tasks
  any_record = ⊎_elim (λ e. omega (arith, narrow form e, known-most form flag listed)) (λ h. omega (arith, gap_record h)) (form_or form)
