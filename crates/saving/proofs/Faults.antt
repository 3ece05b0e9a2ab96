-- The order of the refusals: what the judgement is at each step, and what a save then answers and leaves. Assumes nothing.
use Prim.Native.Nat.{ℕ, ◌<◌, ◌≤◌}
use mathlib.Core.Path.{◌≡◌, refl, ap, ◌∙◌}
use mathlib.Core.List.{List}
use mathlib.Core.Bool.{Bool, true, false}
use lib.ListN.{length, take}
use borrow.Author.Tests.{lt-ltb, le-ltb, eq-eqb, ne_eqb, ltb-false, eqb-false}
use Rattle.search.specs.Choice.{◌when◌else◌}
use Rattle.table.specs.Find.{row_of}
use Rattle.table.specs.Read.{by_verdict, refused_by, read_table, table_of}
use Rattle.std.specs.declared.result.Result.TheVariants.{Ok, Err}
use Rattle.table.specs.Refusal.{Verdict}
use Rattle.table.specs.declared.refusal.Fault.{Fault}
use Rattle.table.specs.declared.refusal.Refusal.{Refusal}
use Rattle.table.specs.declared.refusal.Refusal.TheVariants.{BadLength, StaleRecord, BadRecord, BufferShort}
use Rattle.search.proofs.Choice.{when_yes, when_no}
use Rattle.saving.specs.Save.{Judgement, read_fault, seen_of, unfit, result_of, result_fault, replace_fault, change_fault, save_fault, written, saved_of, buffer_after, Saves}
use Rattle.saving.proofs.Verdicts.{not-none, accepted_verdict}

-- the result
module _ (room : ℕ) (result : List ℕ) where
  pub result-long : room < length result → result_fault room result ≡ Err BufferShort
  unfolding result_fault ◌when◌else◌
  result-long h = rw (lt-ltb _ _ h)

  pub result-read : length result ≤ room → result_fault room result ≡ read_fault result
  unfolding result_fault ◌when◌else◌
  result-read h = rw (le-ltb _ _ h)

module _ (room : ℕ) (s old new : List ℕ) where
  -- the table's own fault comes first
  pub change_unread : {f : Fault} → (read_table s).verdict ≡ Err f → change_fault room s old new ≡ Err f.0
  unfolding change_fault
  change_unread e = rw e

  pub change_read : read_fault s ≡ Ok tt → change_fault room s old new ≡ replace_fault room s old new
  unfolding change_fault
  change_read e = ap (λ v. by_verdict Err v (replace_fault room s old new)) (accepted_verdict s e)

  pub replace_unseen : seen_of s old ≡ (table_of s).count → replace_fault room s old new ≡ Err StaleRecord
  unfolding replace_fault
  replace_unseen e = when_yes (Err StaleRecord) _ (eq-eqb _ _ e)

  module _ (seen : seen_of s old ≡ (table_of s).count → ⊥) where
    pub replace_unfit : unfit new (row_of (table_of s) (seen_of s old)).id ≡ true → replace_fault room s old new ≡ Err BadRecord
    unfolding replace_fault
    replace_unfit e = when_no (Err StaleRecord) _ (ne_eqb _ _ seen) ∙ when_yes (Err BadRecord) _ e

    pub replace_result : unfit new (row_of (table_of s) (seen_of s old)).id ≡ false → replace_fault room s old new ≡ result_fault room (result_of s old new)
    unfolding replace_fault
    replace_result e = when_no (Err StaleRecord) _ (ne_eqb _ _ seen) ∙ when_no (Err BadRecord) _ e

-- no fault: what it says
pub record NoFault (room : ℕ) (s old new : List ℕ) : Type 0 where
  pub table : read_fault s ≡ Ok tt
  pub seen : seen_of s old ≡ (table_of s).count → ⊥
  pub fit : unfit new (row_of (table_of s) (seen_of s old)).id ≡ false
  pub fits : length (result_of s old new) ≤ room
  pub result : read_fault (result_of s old new) ≡ Ok tt

when_none : (n : Refusal) (j : Judgement) (t : Bool) → (Err n when t else j) ≡ Ok tt → (t ≡ false) × (j ≡ Ok tt)
unfolding ◌when◌else◌
when_none n j true e = not-none n e
when_none n j false e = (refl, e)

verdict_none : (v : Verdict) (j : Judgement) → by_verdict Err v j ≡ Ok tt → (refused_by v ≡ Ok tt) × (j ≡ Ok tt)
verdict_none (Ok u) j e = (refl, e)
verdict_none (Err f) j e = not-none f.0 e

pub passed : (room : ℕ) (s old new : List ℕ) → change_fault room s old new ≡ Ok tt → NoFault room s old new
unfolding change_fault replace_fault result_fault
passed room s old new e =
    let none = verdict_none (read_table s).verdict _ e in
    let stale = when_none StaleRecord _ _ none.1 in
    let bad = when_none BadRecord _ _ stale.1 in
    let short = when_none BufferShort _ _ bad.1 in
    record { table = none.0; seen = eqb-false _ _ stale.0; fit = bad.0; fits = ltb-false _ _ short.0; result = short.1 }

pub change_none : (room : ℕ) (s old new : List ℕ) → NoFault room s old new → change_fault room s old new ≡ Ok tt
change_none room s old new p =
    change_read room s old new p.table ∙ replace_result room s old new p.seen p.fit ∙ result-read room _ p.fits ∙ p.result

-- the save
module _ (buffer : List ℕ) (used : ℕ) (old new : List ℕ) where
  pub save-beyond : length buffer < used → save_fault buffer used old new ≡ Err BadLength
  unfolding save_fault ◌when◌else◌
  save-beyond h = rw (lt-ltb _ _ h)

  pub save-within : used ≤ length buffer → save_fault buffer used old new ≡ change_fault (length buffer) (take used buffer) old new
  unfolding save_fault ◌when◌else◌
  save-within h = rw (le-ltb _ _ h)

  -- a refusal leaves every byte
  pub refuses : {n : Refusal} → save_fault buffer used old new ≡ Err n → Saves buffer used old new (Err n) buffer
  unfolding saved_of buffer_after ◌when◌else◌
  refuses e = record { answers = rw e; leaves = rw e }

  pub accepts : save_fault buffer used old new ≡ Ok tt
      → Saves buffer used old new (Ok (length (result_of (take used buffer) old new))) (written buffer used (result_of (take used buffer) old new))
  unfolding saved_of buffer_after ◌when◌else◌
  accepts e = record { answers = rw e; leaves = rw e }
