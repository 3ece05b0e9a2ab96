-- A reading without a fault is accepted. Assumes nothing.
use Prim.Native.Nat.{ℕ, ◌<◌, ◌≤◌}
use native.Mathlib.Omega.{arith}
use mathlib.Core.Path.{◌≡◌, refl, sym, ◌∙◌}
use mathlib.Core.List.{List}
use mathlib.Core.Logic.{⊎_elim}
use lib.ListN.{length}
use lib.Dec.{eqb}
use Rattle.search.proofs.Choice.{lt_or_le}
use Rattle.std.specs.declared.result.Result.TheVariants.{Ok, Err}
use Rattle.table.specs.Limits.{max_bytes}
use Rattle.table.specs.Bytes.{word}
use Rattle.table.specs.Refusal.{Verdict}
use Rattle.table.specs.Read.{accepted, refused_by, read_table, table_of}
use Rattle.table.specs.declared.refusal.Refusal.{Refusal}
use Rattle.table.specs.declared.refusal.Refusal.TheVariants.{BadLength}
use Rattle.table.proofs.Widths.{beyond-both}
use Rattle.table.proofs.Firsts.{or_right}
use Rattle.table.proofs.Steps.{read-long}
use Rattle.slices.proofs.Stored.{accepted-read}
use Rattle.saving.specs.Save.{Judgement, read_fault}

-- a fault is none
pub not-none : {A : Type 0} (n : Refusal) → ◌≡◌ {A = Judgement} (Err n) (Ok tt) → A
not-none n e = absurd (let z : ◌≡◌ {A = ℕ} 0 1 = cc in omega arith)

module _ (s : List ℕ) (none : read_fault s ≡ Ok tt) where
  pub accepted_verdict : (read_table s).verdict ≡ Ok tt
  accepted_verdict = by (read_table s).verdict none
    where
      by : (v : Verdict) → refused_by v ≡ Ok tt → v ≡ Ok tt
      by (Ok u) e = refl
      by (Err f) e = not-none f.0 e

  pub read-accepted : read_table s ≡ accepted (table_of s)
  read-accepted = accepted-read s accepted_verdict

-- a table beyond the greater limit has a bad length, whatever its first mark
pub read_out : (s : List ℕ) → max_bytes < length s → read_fault s ≡ Err BadLength
read_out s h = rw (read-long s (or_right (eqb (length s) 0) _ (beyond-both s (word 2 s 0) h)))

pub read-within : (s : List ℕ) → read_fault s ≡ Ok tt → length s ≤ max_bytes
read-within s e = ⊎_elim (λ h. not-none BadLength (sym (read_out s h) ∙ e)) (λ h. h) (lt_or_le max_bytes (length s))
