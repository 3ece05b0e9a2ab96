-- The result's length, and what is answered of it. Assumes nothing.
use Prim.Native.Nat.{ℕ, zero, suc, ◌+◌, ◌*◌, ◌<◌, ◌≤◌}
use native.Mathlib.Omega.{arith}
use mathlib.Core.Path.{◌≡◌, refl, ap, sym, ◌∙◌}
use mathlib.Core.List.{List, [], ◌∷◌, ◌++◌, flatten}
use lib.Dec.{eqb}
use lib.ListN.{length, drop, length-append}
use borrow.Author.Tests.{lt-ltb, le-ltb, ltb-false}
use Rattle.search.specs.Choice.{◌when◌else◌, by_number}
use Rattle.search.specs.Lists.{keep}
use Rattle.search.proofs.Choice.{when_yes, when_no, when_cases}
use Rattle.table.specs.Limits.{max_bytes}
use Rattle.table.specs.Bytes.{word}
use Rattle.table.specs.Record.{end_record}
use Rattle.table.specs.Read.{Reading, unless, read_table}
use Rattle.table.specs.Refusal.{Verdict}
use Rattle.std.specs.declared.result.Result.TheVariants.{Ok, Err}
use Rattle.table.specs.declared.refusal.Fault.{Fault}
use Rattle.table.specs.declared.refusal.Refusal.TheVariants.{BadLength}
use Rattle.table.proofs.Words.{end-length}
use Rattle.table.proofs.Firsts.{or_right}
use Rattle.table.proofs.Widths.{beyond-both}
use Rattle.table.proofs.Standing.{longest_record}
use Rattle.table.proofs.Steps.{read-long}
use Rattle.merging.specs.Versions.{Versions, three}
use Rattle.merging.specs.Rule.{taken_of, order}
use Rattle.merging.specs.Merge.{of_merged, is_record, taken_records, result_of, fitted}
use Rattle.merging.specs.declared.Unmerged.TheVariants.{Conflict, NoRoom, Merged}
use Rattle.merging.specs.Code.Parts.{AllTaken}
use Rattle.merging.specs.Code.Size.{states_of, least_of, result_from, Fits}
use Rattle.merging.proofs.Sizes.{taken-short, more_bytes}

-- how long all of it is
pub result-length : (states : List (List ℕ)) → length (result_from states) ≡ length (flatten states) + 4
result-length states = length-append (flatten states) (end_record (length (keep is_record states))) ∙ ap (λ n. length (flatten states) + n) (end-length (length (keep is_record states)))

pub states-short : {ancestor first second : List ℕ} → AllTaken ancestor first second → (ids : List ℕ) → length (flatten (states_of (three ancestor first second) ids)) ≤ longest_record * length ids
unfolding flatten
states-short t [] = omega arith
states-short {ancestor} {first} {second} t (id ∷ ids) =
    omega (arith, more_bytes (taken_of (three ancestor first second) id) (states_of (three ancestor first second) ids), taken-short t id, states-short t ids)

-- what is answered, and what is left
module _ (v : Versions) (ids before : List ℕ) where
  abbrev result : List ℕ
  result = result_from (states_of v ids)

  pub fits-conflict : (id : ℕ) → least_of v ids ≡ id → (id ≡ 0 → ⊥) → Fits v ids before (Err (Conflict id)) before
  unfolding by_number ◌when◌else◌
  fits-conflict zero e h = absurd (h refl)
  fits-conflict (suc id) e h = record { answers = rw e; leaves = refl }

  module _ (none : least_of v ids ≡ 0) where
    pub fits_not : length before < length result → Fits v ids before (Err NoRoom) before
    unfolding by_number fitted ◌when◌else◌
    fits_not h = record { answers = rw (none, lt-ltb _ _ h); leaves = refl }

    module _ (h : length result ≤ length before) where
      by_verdict_lem : (w : Verdict) → (read_table result).verdict ≡ w → by_number (λ id. Err (Conflict id)) (least_of v ids) (fitted (length before) result) ≡ unless of_merged w (Ok (length result))
      unfolding by_number fitted ◌when◌else◌
      by_verdict_lem w e = rw (none, le-ltb _ _ h, e)

      pub fits_refused : {f : Fault} → (read_table result).verdict ≡ Err f → Fits v ids before (Err (Merged f)) before
      unfolding unless
      fits_refused {f} e = record { answers = sym (by_verdict_lem (Err f) e); leaves = sym (when_no _ _ refl) }

      pub fits-long : max_bytes < length result → Fits v ids before (Err (Merged (BadLength, 0))) before
      fits-long l = fits_refused (ap (λ (r : Reading). r.verdict) (read-long result (or_right (eqb (length result) 0) _ (beyond-both result (word 2 result 0) l))))

      pub fits-accepted : (read_table result).verdict ≡ Ok tt → Fits v ids before (Ok (length result)) (result ++ drop (length result) before)
      unfolding unless
      fits-accepted e = record { answers = sym (by_verdict_lem (Ok tt) e); leaves = sym (when_yes _ _ refl) }

-- states that are no records add no byte
flatten-records : (states : List (List ℕ)) → flatten (keep is_record states) ≡ flatten states
unfolding keep flatten
flatten-records [] = refl
flatten-records (state ∷ states) = let on = flatten-records states in
    when_cases (λ (r : List (List ℕ)). flatten r ≡ state ++ flatten states) (is_record state)
    (λ e. ap (λ (r : List ℕ). state ++ r) on) (λ e. on ∙ none state (ltb-false _ _ e))
  where
    none : (l : List ℕ) → length l ≤ 0 → flatten states ≡ l ++ flatten states
    none [] h = refl
    none (x ∷ l) h = absurd (omega arith)

pub result-from : (v : Versions) → result_from (states_of v (order v)) ≡ result_of v
unfolding result_of taken_records
result-from v = ap (λ (l : List ℕ). l ++ end_record (length (keep is_record (states_of v (order v))))) (sym (flatten-records (states_of v (order v))))
