-- One save: what its answer says, and what the next save finds. Assumes nothing.
use Prim.Native.Nat.{ℕ, zero, suc, max, ◌+◌, ◌-◌, ◌≤◌}
use native.Mathlib.Omega.{arith}
use mathlib.Core.Path.{◌≡◌, refl, ap, sym, ◌∙◌}
use mathlib.Core.List.{List, ◌++◌, append_assoc}
use mathlib.Core.Bool.{true}
use mathlib.Core.Logic.{⊎_elim}
use lib.ListN.{length, take, drop, replicate, length-append, length-drop, length-replicate}
use lib.Seq.{take_at}
use Rattle.search.proofs.Choice.{true-not-false, lt_or_le}
use Rattle.table.specs.Bytes.{Bytes}
use Rattle.table.specs.Find.{row_of}
use Rattle.table.specs.Place.{length_of, place_of}
use Rattle.table.specs.Read.{table_of}
use Rattle.std.specs.Prelude.{is_ok}
use Rattle.std.specs.declared.result.Result.TheVariants.{Ok, Err}
use Rattle.table.specs.Refusal.{answering}
use Rattle.table.specs.declared.refusal.Refusal.TheVariants.{BadLength}
use Rattle.saving.specs.Save.{Judgement, seen_of, result_of, save_fault, written, saved_of}
use Rattle.saving.specs.Later.{State, stored, Holding, Edit, used_after, answer, after}
use Rattle.slices.proofs.Bytes.{bytes_append, bytes_take, bytes_drop}
use Rattle.saving.proofs.Verdicts.{not-none}
use Rattle.saving.proofs.Faults.{NoFault, passed, change_none, save-beyond, save-within, accepts}

-- what is no fault is accepted, and the other way round
module _ (buffer : List ℕ) (used : ℕ) (old new : List ℕ) where
  pub saved-ok : is_ok (saved_of buffer used old new) ≡ is_ok (save_fault buffer used old new)
  unfolding saved_of
  saved-ok = by (save_fault buffer used old new)
    where
      by : (j : Judgement) → is_ok (answering j (length (result_of (take used buffer) old new))) ≡ is_ok j
      by (Ok u) = refl
      by (Err n) = refl

no-fault : (j : Judgement) → is_ok j ≡ true → j ≡ Ok tt
no-fault (Ok u) e = refl
no-fault (Err n) e = absurd (true-not-false e refl)

bytes-zeros : (n : ℕ) → Bytes (replicate n 0)
bytes-zeros zero i = omega arith
bytes-zeros (suc n) zero = omega arith
bytes-zeros (suc n) (suc i) = bytes-zeros n i

pub bytes-result : (s old new : List ℕ) → Bytes s → Bytes new → Bytes (result_of s old new)
unfolding result_of
bytes-result s old new h w =
    let at = place_of (table_of s) (seen_of s old) in
    let n = length_of (row_of (table_of s) (seen_of s old)) in
    bytes_append (take at s ++ new) (drop (at + n) s) (bytes_append (take at s) new (bytes_take at s h) w) (bytes_drop (at + n) s h)

module _ (x : State) (e : Edit) where
  abbrev result : List ℕ
  result = result_of (stored x) e.old e.new

  -- a save that passes every test is accepted
  pub passed-accepted : x.used ≤ length x.buffer → NoFault (length x.buffer) (stored x) e.old e.new → is_ok (answer x e) ≡ true
  passed-accepted h p =
      saved-ok x.buffer x.used e.old e.new
      ∙ ap (λ (j : Judgement). is_ok j) (save-within x.buffer x.used e.old e.new h ∙ change_none (length x.buffer) (stored x) e.old e.new p)

  module _ (taken : is_ok (answer x e) ≡ true) where
    no_fault : save_fault x.buffer x.used e.old e.new ≡ Ok tt
    no_fault = no-fault _ (sym (saved-ok x.buffer x.used e.old e.new) ∙ taken)

    -- an accepted one passed every test
    pub used-within : x.used ≤ length x.buffer
    used-within = ⊎_elim (λ h. not-none BadLength (sym (save-beyond x.buffer x.used e.old e.new h) ∙ no_fault)) (λ h. h) (lt_or_le (length x.buffer) x.used)

    pub all-passed : NoFault (length x.buffer) (stored x) e.old e.new
    all-passed = passed _ _ _ _ (sym (save-within x.buffer x.used e.old e.new used-within) ∙ no_fault)

    -- it answers the result's length, and the result is written
    pub after-answer : answer x e ≡ Ok (length result)
    after-answer = sym (accepts x.buffer x.used e.old e.new no_fault).answers

    pub after-buffer : (after x e).buffer ≡ written x.buffer x.used result
    after-buffer = sym (accepts x.buffer x.used e.old e.new no_fault).leaves

    pub after-used : (after x e).used ≡ length result
    after-used = ap (used_after x.used) after-answer

    -- the next save finds the result, in a buffer as long, of bytes
    pub after-stored : stored (after x e) ≡ result
    unfolding written
    after-stored = rw (after-used, after-buffer, append_assoc) (take_at result _ (length result) refl)

    pub after-length : length (after x e).buffer ≡ length x.buffer
    unfolding written
    after-length = rw after-buffer (simp (length-append, length-replicate, length-drop) (omega (arith, all-passed.fits, used-within)))

    pub after-bytes : Bytes x.buffer → Bytes e.new → Bytes (after x e).buffer
    unfolding written
    after-bytes h w =
        rw after-buffer
        (bytes_append (result ++ replicate (x.used - length result) 0) (drop (max x.used (length result)) x.buffer)
        (bytes_append result (replicate (x.used - length result) 0) (bytes-result (stored x) e.old e.new (bytes_take x.used x.buffer h) w) (bytes-zeros (x.used - length result))) (bytes_drop (max x.used (length result)) x.buffer h))

    pub after-holding : Bytes x.buffer → Bytes e.new → Holding (after x e)
    after-holding h w = record {
      bytes = after-bytes h w;
      within = omega (arith, after-length, after-used, all-passed.fits);
      right = rw after-stored all-passed.result;
    }
