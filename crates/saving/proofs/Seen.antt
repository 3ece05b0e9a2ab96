-- Which stored record the old one is: laws of `seen_of`. Assumes nothing.
use Prim.Native.Nat.{ℕ, ◌+◌, ◌-◌, ◌<◌, ◌≤◌}
use native.Mathlib.Omega.{arith}
use mathlib.Core.Path.{◌≡◌, ap, sym, ◌∙◌}
use mathlib.Core.List.{List}
use mathlib.Core.Bool.{true}
use lib.ListN.{length}
use lib.Dec.{eqb}
use borrow.Author.Tests.{eqb-true, eqb-false}
use Rattle.std.specs.declared.option.Option.{Option}
use Rattle.std.specs.declared.result.Result.{Result}
use Rattle.std.specs.declared.result.Result.TheVariants.{Ok, Err}
use Rattle.std.specs.Option.{ok_or}
use Rattle.search.proofs.Choice.{when_cases, true-not-false}
use Rattle.search.proofs.Find.{first_le, first_hit, first_miss, first-is, first-none}
use Rattle.table.specs.Bytes.{Bytes}
use Rattle.table.specs.Find.{row_of}
use Rattle.table.specs.Read.{accepted, read_table, table_of}
use Rattle.table.specs.Place.{length_of, place_of}
use Rattle.slices.specs.Slices.{same, splice}
use Rattle.slices.specs.Stored.{record_of}
use Rattle.saving.specs.Save.{seen_of, seen_chain, result_of}
use Rattle.slices.proofs.Sameness.{same_true, same-yes}
use Rattle.slices.proofs.Splices.{splice-length}
use Rattle.slices.proofs.Stored.{stored-holds, record_size}

module _ (s old : List ℕ) where
  -- the first chain whose record is the old one
  pub seen-is : (chain : ℕ) → chain < (table_of s).count → same (record_of s chain) old ≡ true → ((j : ℕ) → j < chain → same (record_of s j) old ≡ true → ⊥) → seen_of s old ≡ chain
  unfolding seen_of
  seen-is chain h e before =
      first-is (λ j. same (record_of s j) old) 0 (table_of s).count chain (omega arith) (omega arith) e (λ j a l. before j l)

  -- no chain's record is
  pub seen_none : ((j : ℕ) → j < (table_of s).count → same (record_of s j) old ≡ true → ⊥) → seen_of s old ≡ (table_of s).count
  unfolding seen_of
  seen_none none =
      let e : 0 + (table_of s).count ≡ (table_of s).count = omega arith in
      first-none (λ j. same (record_of s j) old) 0 (table_of s).count (λ j a l. none j (omega arith)) ∙ e

  pub seen_le : seen_of s old ≤ (table_of s).count
  unfolding seen_of
  seen_le = omega (arith, first_le (λ j. same (record_of s j) old) 0 (table_of s).count)

  -- what is answered for the chain that was seen
  module _ {E : Type 0} (e : E) {o : Option ℕ} {r : Result ℕ E} (is : o ≡ seen_chain s old) (asked : r ≡ ok_or o e) where
    pub seen-there : {chain : ℕ} → r ≡ Ok chain → (chain ≡ seen_of s old) × (seen_of s old < (table_of s).count)
    seen-there {chain} h = when_cases (λ q. ok_or q e ≡ Ok chain → (chain ≡ seen_of s old) × (seen_of s old < (table_of s).count)) (eqb (seen_of s old) (table_of s).count)
        (λ b k. absurd (let z : ◌≡◌ {A = ℕ} 0 1 = cc in omega arith))
        (λ b k. (cc, omega (arith, eqb-false _ _ b, seen_le)))
        (ap (λ q. ok_or q e) (sym is) ∙ sym asked ∙ h)

    pub seen-missing : {q : E} → r ≡ Err q → (seen_of s old ≡ (table_of s).count) × (q ≡ e)
    seen-missing {q} h = when_cases (λ o. ok_or o e ≡ Err q → (seen_of s old ≡ (table_of s).count) × (q ≡ e)) (eqb (seen_of s old) (table_of s).count)
        (λ b k. (eqb-true _ _ b, cc))
        (λ b k. absurd (let z : ◌≡◌ {A = ℕ} 0 1 = cc in omega arith))
        (ap (λ q. ok_or q e) (sym is) ∙ sym asked ∙ h)

  -- the record seen is the old one
  pub seen_record : seen_of s old < (table_of s).count → record_of s (seen_of s old) ≡ old
  unfolding seen_of
  seen_record h = same_true _ old (first_hit (λ j. same (record_of s j) old) 0 (table_of s).count (omega (arith, h)))

  -- a stored record is seen, no later than where it stands
  pub seen_by : (chain : ℕ) → chain < (table_of s).count → record_of s chain ≡ old → seen_of s old ≤ chain
  unfolding seen_of
  seen_by chain h e =
      let n : ¬ (chain < seen_of s old) = λ l. true-not-false (same-yes _ old e) (first_miss (λ j. same (record_of s j) old) 0 (table_of s).count chain (omega arith) l) in
      omega arith

  -- where one is, it takes as many bytes as the old one, and the result is the new one in their place
  module _ (read : read_table s ≡ accepted (table_of s)) (bytes : Bytes s) (h : seen_of s old < (table_of s).count) where
    seen_size : length old ≡ length_of (row_of (table_of s) (seen_of s old))
    seen_size = ap length (sym (seen_record h)) ∙ record_size s (table_of s) read bytes (seen_of s old) h

    pub seen-inside : place_of (table_of s) (seen_of s old) + length old ≤ length s
    seen-inside = omega (arith, seen_size, (stored-holds s (table_of s) read bytes).inside (seen_of s old) h)

    pub result-is : (new : List ℕ) → splice s (place_of (table_of s) (seen_of s old)) (length old) new ≡ result_of s old new
    unfolding result_of
    result-is new = rw seen_size

    pub result-length : (new : List ℕ) → length (result_of s old new) ≡ length s - length old + length new
    result-length new = rw (← result-is new) (splice-length s (place_of (table_of s) (seen_of s old)) (length old) new seen-inside)
