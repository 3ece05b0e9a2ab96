-- A copy whose states are all taken, and whose ids stand in the ancestor's order, is the result, byte for byte. Assumes nothing.
use Prim.Native.Nat.{ℕ}
use mathlib.Core.Path.{◌≡◌, refl, ap, sym, ◌∙◌}
use mathlib.Core.List.{List, [], ◌∷◌, ◌++◌, map, flatten, append-nil}
use mathlib.Core.Bool.{Bool, true, not, ◌||◌}
use lib.Dec.{eqb}
use lib.ListN.{length, drop}
use borrow.Author.Tests.{eq-eqb}
use Rattle.search.specs.Lists.{some, keep, All}
use Rattle.search.proofs.Choice.{when_yes, when_no}
use Rattle.table.specs.Bytes.{Bytes}
use Rattle.table.specs.Place.{place_of}
use Rattle.table.specs.Read.{read_table, table_of}
use Rattle.std.specs.declared.result.Result.TheVariants.{Ok}
use Rattle.table.proofs.Firsts.{or_right}
use Rattle.slices.proofs.Records.{length-records}
use Rattle.slices.proofs.Ends.{end-stored}
use Rattle.merging.specs.Versions.{Versions, state_of, ids_of}
use Rattle.merging.specs.Rule.{taken_of, among, joined, order}
use Rattle.table.specs.Record.{end_record}
use Rattle.merging.specs.Merge.{is_record, taken_records, result_of}
use Rattle.merging.proofs.Picks.{id_in, pick, pick_all}
use Rattle.merging.proofs.Copies.{records_in, in_parts, state_picked, ids_borne, records-alone, all-records}
use Rattle.merging.proofs.Promises.{map-alike}

-- numbers joined to themselves
none-new : (k l : List ℕ) → ((n : ℕ) → among k n ≡ true → among l n ≡ true) → keep (λ n. not (among l n)) k ≡ []
unfolding keep some
none-new [] l h = refl
none-new (n ∷ k) l h =
    when_no _ _ (ap not (h n (ap (λ (t : Bool). t || among k n) (eq-eqb n n refl)))) ∙ none-new k l (λ m e. h m (or_right (eqb n m) (among k m) e))

joined_same : (l : List ℕ) → joined l l ≡ l
joined_same l = ap (λ (r : List ℕ). l ++ r) (none-new l l (λ n e. e)) ∙ append-nil l

-- records are all kept
keep-every : (rs : List (List ℕ)) → All (λ r. is_record r ≡ true) rs → keep is_record rs ≡ rs
unfolding keep
keep-every [] h = refl
keep-every (r ∷ rs) h = when_yes _ _ h.0 ∙ ap (λ (l : List (List ℕ)). r ∷ l) (keep-every rs h.1)

module _ (s : List ℕ) (bytes : Bytes s) (verdict : (read_table s).verdict ≡ Ok tt) where
  abbrev rs : List (List ℕ)
  rs = records_in s bytes verdict

  abbrev end : ℕ
  end = place_of (table_of s) (table_of s).count

  -- the last four bytes are the end record with their number
  count-is : length rs ≡ (table_of s).count
  count-is = length-records s (table_of s).count 0

  end_is : end_record (length rs) ≡ drop end s
  end_is = ap end_record count-is ∙ end-stored s bytes verdict

  -- where every state that is taken is this table's, and all three have its ids in its order, the result is this table
  module _ (v : Versions) (of_ancestor : ids_of v.ancestor ≡ ids_of s) (of_first : ids_of v.first ≡ ids_of s) (of_second : ids_of v.second ≡ ids_of s)
      (gives : (id : ℕ) → taken_of v id ≡ state_of s id) where
    in_order : order v ≡ ids_of s
    unfolding order
    in_order = rw (of_ancestor, of_first, of_second) (ap (λ (l : List ℕ). joined l (ids_of s)) (joined_same (ids_of s)) ∙ joined_same (ids_of s))

    same-records : taken_records v ≡ rs
    unfolding taken_records
    same-records =
        ap (λ (l : List ℕ). keep is_record (map (taken_of v) l)) (in_order ∙ sym (ids_borne s bytes verdict))
        ∙ ap (keep is_record) (map-alike (taken_of v) (λ id. pick id rs) (λ id. gives id ∙ state_picked s bytes verdict id) (map id_in rs) ∙ pick_all rs (records-alone s bytes verdict))
        ∙ keep-every rs (all-records s bytes verdict)

    pub same-result : result_of v ≡ s
    unfolding result_of
    same-result =
        ap (λ (l : List (List ℕ)). flatten l ++ end_record (length l)) same-records
        ∙ ap (λ (l : List ℕ). flatten rs ++ l) end_is ∙ sym (in_parts s bytes verdict).bytes
