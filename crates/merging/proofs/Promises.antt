-- What is promised of a merge: its conflicts, the copies swapped, an unchanged copy, three equal tables. Assumes nothing.
use Prim.Native.Nat.{ℕ, ◌<◌, ◌≤◌}
use native.Mathlib.Omega.{arith}
use mathlib.Core.Path.{◌≡◌, refl, ap, ap₂, sym, subst, ◌∙◌}
use mathlib.Core.List.Permᴰ
use mathlib.Core.List.{List, [], ◌∷◌, ◌++◌, map, flatten, append_assoc, map-append, Permᴰ}
use mathlib.Core.Bool.{Bool, true, false, not, ◌&&◌}
use mathlib.Core.Logic.{◌⊎◌, ⊎_elim}
use lib.Dec.{ltb}
use lib.ListN.{length}
use borrow.Author.Tests.{ltb-true, lt-ltb, eqb-true}
use Rattle.search.specs.Lists.{keep}
use Rattle.search.proofs.Choice.{true-not-false, lt_or_le}
use Rattle.search.proofs.Keeping.{keep_append}
use Rattle.search.proofs.Lists.{perm_sum}
use Rattle.table.specs.Bytes.{Bytes}
use Rattle.table.specs.Find.{row_of, rows}
use Rattle.table.specs.Read.{read_table, table_of}
use Rattle.table.specs.Refusal.{Verdict}
use Rattle.std.specs.declared.result.Result.TheVariants.{Ok, Err}
use Rattle.table.specs.declared.refusal.Refusal.{Refusal}
use Rattle.table.proofs.Firsts.{not-accepted}
use Rattle.table.proofs.Accepted.{taken}
use Rattle.slices.specs.Slices.{same}
use Rattle.slices.proofs.Parts.{row_in, flatten_append}
use Rattle.slices.proofs.Sameness.{same_true, same-yes, same_no}
use Rattle.merging.specs.Versions.{Versions, swapped, state_of, ids_of}
use Rattle.merging.specs.Rule.{by_states, taken_of, conflict_of, among, order, conflict_above}
use Rattle.table.specs.Record.{end_record}
use Rattle.merging.specs.Merge.{is_record, taken_records, staying, result_of}
use Rattle.merging.proofs.Leasts.{least_le, least-is}
use Rattle.merging.proofs.Rules.{by_alike, by-second, by_first, by_neither}
use Rattle.merging.proofs.Lookup.{state_missing}
use Rattle.merging.proofs.Picks.{pick_perm}
use Rattle.merging.proofs.Copies.{records_in, state_picked, records-alone, all-records}
use Rattle.merging.proofs.Merges.{Edited, conflict-swapped, taken-swapped, unlisted-alike, taken-picked, taken-alone, taken-records, edited_swapped, swapped_perm}
use Rattle.merging.proofs.Tables.{flatten-length, result-length, result-bytes, result-records, result_rows, same_size, accepted-again}

-- Conflicts

-- three states of which no two are alike
pub record Differ (was first second : List ℕ) : Type 0 where
  pub copies : first ≡ second → ⊥
  pub of_first : first ≡ was → ⊥
  pub of_second : second ≡ was → ⊥

module _ (was first second : List ℕ) where
  pub differ-conflict : Differ was first second → by_states was first second false false true ≡ true
  differ-conflict d = by_neither was first second _ _ _ (same_no _ _ d.copies) (same_no _ _ d.of_first) (same_no _ _ d.of_second)

  pub conflict-differ : by_states was first second false false true ≡ true → Differ was first second
  conflict-differ e = record {
    copies = λ f. true-not-false e (by_alike was first second _ _ _ (same-yes _ _ f));
    of_first = λ f. not_first f (same first second) refl;
    of_second = λ f. not-second f (same first second) refl (same first was) refl;
  }
    where
      not_first : first ≡ was → (t : Bool) → same first second ≡ t → ⊥
      not_first f true a = true-not-false e (by_alike was first second _ _ _ a)
      not_first f false a = true-not-false e (by-second was first second _ _ _ a (same-yes _ _ f))

      not-second : second ≡ was → (t : Bool) → same first second ≡ t → (u : Bool) → same first was ≡ u → ⊥
      not-second f true a u b = true-not-false e (by_alike was first second _ _ _ a)
      not-second f false a true b = true-not-false e (by-second was first second _ _ _ a b)
      not-second f false a false b = true-not-false e (by_first was first second _ _ _ a b (same-yes _ _ f))

module _ (v : Versions) (e : Edited v) where
  -- an id in conflict is one of the three tables'
  conflict-listed : (id : ℕ) → conflict_of v id ≡ true → among (order v) id ≡ true
  conflict-listed id c = by (among (order v) id) refl
    where
      by : (t : Bool) → among (order v) id ≡ t → t ≡ true
      by true f = refl
      by false f = absurd (true-not-false c (unlisted-alike v e id f))

  module _ (above : ℕ) where
    abbrev passes : ℕ → Bool
    passes id = ltb above id && conflict_of v id

    both : (id : ℕ) → passes id ≡ true → (above < id) × (conflict_of v id ≡ true)
    both id h = by (ltb above id) refl h
      where
        by : (t : Bool) → ltb above id ≡ t → (t && conflict_of v id) ≡ true → (above < id) × (conflict_of v id ≡ true)
        by true f g = (ltb-true above id f, g)
        by false f g = absurd (true-not-false g refl)

    -- what is found is in conflict, and none above `above` is smaller
    pub found-conflict : 0 < conflict_above v above → (above < conflict_above v above) × (conflict_of v (conflict_above v above) ≡ true)
    unfolding conflict_above
    found-conflict h = both (conflict_above v above) (least-is passes (order v) h).1

    pub found-least : (id : ℕ) → above < id → conflict_of v id ≡ true → (0 < conflict_above v above) × (conflict_above v above ≤ id)
    unfolding conflict_above
    found-least id h c =
        least_le passes (order v) id (conflict-listed id c) (ap (λ (t : Bool). t && conflict_of v id) (lt-ltb above id h) ∙ c) (omega arith)

-- the same ids in conflict give the same answer
module _ (v w : Versions) (e : Edited v) (f : Edited w) (alike : (id : ℕ) → conflict_of w id ≡ conflict_of v id) (above : ℕ) where
  no_greater : 0 < conflict_above v above → (0 < conflict_above w above) × (conflict_above w above ≤ conflict_above v above)
  no_greater h = let c = found-conflict v e above h in found-least w f above (conflict_above v above) c.0 (alike (conflict_above v above) ∙ c.1)

-- The copies swapped
module _ (v : Versions) (e : Edited v) where
  pub swapped-conflicts : (above : ℕ) → conflict_above (swapped v) above ≡ conflict_above v above
  swapped-conflicts above =
      let back = no_greater (swapped v) v (edited_swapped e) e (λ id. sym (conflict-swapped v id)) above in
      let on = no_greater v (swapped v) e (edited_swapped e) (conflict-swapped v) above in
      ⊎_elim (λ h. omega (arith, on h, back (on h).0))
      (λ h. ⊎_elim (λ g. omega (arith, back g, h)) (λ g. omega (arith, g, h)) (lt_or_le 0 (conflict_above (swapped v) above)))
      (lt_or_le 0 (conflict_above v above))

  pub swapped-length : length (result_of (swapped v)) ≡ length (result_of v)
  swapped-length =
      omega (arith, result-length v e, result-length (swapped v) (edited_swapped e), flatten-length (taken_records v), flatten-length (taken_records (swapped v)), perm_sum length (swapped_perm v e))

  pub swapped-accepted : (read_table (result_of v)).verdict ≡ Ok tt → (read_table (result_of (swapped v))).verdict ≡ Ok tt
  swapped-accepted verdict =
      accepted-again (swapped v) (edited_swapped e) (result_of v) (result-bytes v e) verdict
      (subst (λ (rs : List (List ℕ)). Permᴰ rs (taken_records (swapped v))) (sym (result-records v e verdict)) (swapped_perm v e))

  pub swapped_rows : (read_table (result_of v)).verdict ≡ Ok tt → Permᴰ (rows (table_of (result_of v))) (rows (table_of (result_of (swapped v))))
  swapped_rows verdict =
      rw (result_rows v e verdict, result_rows (swapped v) (edited_swapped e) (swapped-accepted verdict)) (Permᴰ.map row_in (swapped_perm v e))

pub swapped-refused : (v : Versions) → Edited v → {n : Refusal} {place : ℕ} → (read_table (result_of v)).verdict ≡ Err (n, place)
    → (m : Refusal) × (q : ℕ) × ((read_table (result_of (swapped v))).verdict ≡ Err (m, q))
swapped-refused v e h = by (read_table (result_of (swapped v))).verdict refl
  where
    by : (w : Verdict) → (read_table (result_of (swapped v))).verdict ≡ w → (m : Refusal) × (q : ℕ) × ((read_table (result_of (swapped v))).verdict ≡ Err (m, q))
    by (Ok u) f = absurd (not-accepted (sym h ∙ swapped-accepted (swapped v) (edited_swapped e) f))
    by (Err g) f = (g.0, g.1, f)

-- the ancestor's records that stay stand first in both
pub map-alike : {A B : Type 0} (f g : A → B) → ((a : A) → f a ≡ g a) → (l : List A) → map f l ≡ map g l
map-alike f g h [] = refl
map-alike f g h (a ∷ l) = ap₂ ◌∷◌ (h a) (map-alike f g h l)

pub staying-first : (v : Versions) → (rest : List ℕ) × (result_of v ≡ staying v ++ rest)
unfolding result_of taken_records order
staying-first v =
    let ids = ids_of v.ancestor in
    let more = keep (λ n. not (among ids n)) (ids_of v.first) in
    let last = keep (λ n. not (among (ids ++ more) n)) (ids_of v.second) in
    let all : map (taken_of v) (ids ++ more ++ last) ≡ map (taken_of v) ids ++ map (taken_of v) (more ++ last) = ap (map (taken_of v)) (append_assoc ids more last) ∙ map-append (taken_of v) ids (more ++ last) in
    let end = end_record (length (keep is_record (map (taken_of v) (ids ++ more ++ last)))) in
    let one = keep is_record (map (taken_of v) ids) in
    let two = keep is_record (map (taken_of v) (more ++ last)) in
    (flatten two ++ end, ap (λ (rs : List (List ℕ)). flatten rs ++ end) (ap (keep is_record) all ∙ keep_append is_record (map (taken_of v) ids) (map (taken_of v) (more ++ last))) ∙ ap (λ (l : List ℕ). l ++ end) (flatten_append one two) ∙ append_assoc (flatten one) (flatten two) end)

pub staying-swapped : (v : Versions) → staying (swapped v) ≡ staying v
staying-swapped v = ap (λ (rs : List (List ℕ)). flatten (keep is_record rs)) (map-alike (taken_of (swapped v)) (taken_of v) (taken-swapped v) (ids_of v.ancestor))

-- A copy that gives every state that is taken: the other is unchanged
module _ (v : Versions) (e : Edited v) (s : List ℕ) (bytes : Bytes s) (verdict : (read_table s).verdict ≡ Ok tt) (gives : (id : ℕ) → taken_of v id ≡ state_of s id) where
  given_perm : Permᴰ (records_in s bytes verdict) (taken_records v)
  given_perm =
      pick_perm (records_in s bytes verdict) (taken_records v) (records-alone s bytes verdict) (taken-alone v e) (all-records s bytes verdict) (taken-records v e)
      (λ id. sym (state_picked s bytes verdict id) ∙ sym (gives id) ∙ sym (taken-picked v e id))

  pub given-accepted : (read_table (result_of v)).verdict ≡ Ok tt
  given-accepted = accepted-again v e s bytes verdict given_perm

  pub given-length : length (result_of v) ≡ length s
  given-length = same_size v e s bytes verdict given_perm

-- the state that is taken, and that there is no conflict, where one copy has the ancestor's
module _ (was first second : List ℕ) where
  pub first-unchanged : first ≡ was → by_states was first second first second [] ≡ second
  first-unchanged e = by (same first second) refl
    where
      by : (t : Bool) → same first second ≡ t → by_states was first second first second [] ≡ second
      by true f = by_alike was first second _ _ _ f ∙ same_true _ _ f
      by false f = by-second was first second _ _ _ f (same-yes _ _ e)

  pub second-unchanged : second ≡ was → by_states was first second first second [] ≡ first
  second-unchanged e = by (same first second) refl (same first was) refl
    where
      by : (t : Bool) → same first second ≡ t → (u : Bool) → same first was ≡ u → by_states was first second first second [] ≡ first
      by true f u g = by_alike was first second _ _ _ f
      by false f true g = absurd (true-not-false (same-yes first second (same_true _ _ g ∙ sym e)) f)
      by false f false g = by_first was first second _ _ _ f g (same-yes _ _ e)

  pub none_differ : (first ≡ was) ⊎ (second ≡ was) → by_states was first second false false true ≡ false
  none_differ h = by (by_states was first second false false true) refl
    where
      by : (t : Bool) → by_states was first second false false true ≡ t → t ≡ false
      by true f = let d = conflict-differ was first second f in absurd (⊎_elim d.of_first d.of_second h)
      by false f = refl

pub no_conflict : (v : Versions) → Edited v → ((id : ℕ) → conflict_of v id ≡ false) → (above : ℕ) → conflict_above v above ≡ 0
no_conflict v e none above = ⊎_elim
    (λ h. absurd (true-not-false (found-conflict v e above h).1 (none (conflict_above v above))))
    (λ h. omega (arith, h)) (lt_or_le 0 (conflict_above v above))

-- no table has the id 0
pub zero-alike : (v : Versions) → Edited v → conflict_of v 0 ≡ false
zero-alike v e =
    let none : (s : List ℕ) → Bytes s → (read_table s).verdict ≡ Ok tt → state_of s 0 ≡ [] = λ s bytes verdict.
    state_missing s 0 (λ j h f. omega (arith, ((taken s bytes verdict).good.row j h).id, eqb-true (row_of (table_of s) j).id 0 f)) in
    by_alike (state_of v.ancestor 0) (state_of v.first 0) (state_of v.second 0) _ _ _
    (same-yes _ _ (none v.first e.of_first e.all.first ∙ sym (none v.second e.of_second e.all.second)))
