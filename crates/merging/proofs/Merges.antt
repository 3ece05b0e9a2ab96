-- What the merge of three accepted tables takes, id by id, and in which order. Assumes nothing.
use Prim.Native.Nat.{ℕ}
use native.Mathlib.Omega.{arith}
use mathlib.Core.Path.{◌≡◌, refl, ap, ap₂, sym, ◌∙◌}
use mathlib.Core.List.{List, [], ◌∷◌, ◌++◌, map, Permᴰ}
use mathlib.Core.Bool.{Bool, true, false, not, ◌||◌}
use lib.Dec.{eqb}
use borrow.Author.Tests.{eqb-true, eq-eqb, ltb-true}
use Rattle.search.specs.Choice.{◌when◌else◌}
use Rattle.search.specs.Lists.{some, keep, All}
use Rattle.search.proofs.Choice.{when_yes, when_no, true-not-false}
use Rattle.table.specs.Bytes.{Bytes}
use Rattle.table.specs.Read.{read_table}
use Rattle.std.specs.declared.result.Result.TheVariants.{Ok}
use Rattle.table.proofs.Firsts.{none_or, or_right}
use Rattle.slices.specs.Slices.{same}
use Rattle.slices.proofs.Sameness.{same_true, same-yes, same_no}
use Rattle.merging.specs.Versions.{Versions, swapped, state_of, ids_of}
use Rattle.merging.specs.Rule.{by_states, taken_of, conflict_of, among, joined, order}
use Rattle.merging.specs.Merge.{is_record, taken_records}
use Rattle.merging.specs.Code.Judged.{AllAccepted}
use Rattle.merging.proofs.Rules.{by_alike, by-second, by_first, by_neither}
use Rattle.merging.proofs.Sizes.{by_cases}
use Rattle.merging.proofs.Picks.{id_in, pick, Alone, pick-bears, pick-none, alone-keep, pick-kept, alone-kept, all-kept, pick_perm}
use Rattle.merging.proofs.Copies.{records_in, state_picked, ids_borne, ids-alone}

-- three accepted tables, of bytes
pub record Edited (v : Versions) : Type 0 where
  pub all : AllAccepted v
  pub of_ancestor : Bytes v.ancestor
  pub of_first : Bytes v.first
  pub of_second : Bytes v.second

-- The copies the other way round

same-turned : (a b : List ℕ) (t : Bool) → same a b ≡ t → same b a ≡ t
same-turned a b true e = same-yes b a (sym (same_true a b e))
same-turned a b false e = same_no b a (λ f. true-not-false (same-yes a b (sym f)) e)

module _ {A : Type 0} (was first second : List ℕ) (firsts seconds neither : A) (one : first ≡ second → firsts ≡ seconds) where
  by_turned : by_states was second first seconds firsts neither ≡ by_states was first second firsts seconds neither
  by_turned = both (same first second) refl
    where
      last : same first second ≡ false → same first was ≡ false → (t : Bool) → same second was ≡ t
          → by_states was second first seconds firsts neither ≡ by_states was first second firsts seconds neither
      last differ changed true e =
          by-second was second first _ _ _ (same-turned first second false differ) e ∙ sym (by_first was first second _ _ _ differ changed e)
      last differ changed false e =
          by_neither was second first _ _ _ (same-turned first second false differ) e changed ∙ sym (by_neither was first second _ _ _ differ changed e)

      alone : same first second ≡ false → same first was ≡ true → (t : Bool) → same second was ≡ t
          → by_states was second first seconds firsts neither ≡ by_states was first second firsts seconds neither
      alone differ is true e = absurd (true-not-false (same-yes first second (same_true first was is ∙ sym (same_true second was e))) differ)
      alone differ is false e =
          by_first was second first _ _ _ (same-turned first second false differ) e is ∙ sym (by-second was first second _ _ _ differ is)

      other : same first second ≡ false → (t : Bool) → same first was ≡ t
          → by_states was second first seconds firsts neither ≡ by_states was first second firsts seconds neither
      other differ true e = alone differ e (same second was) refl
      other differ false e = last differ e (same second was) refl

      both : (t : Bool) → same first second ≡ t → by_states was second first seconds firsts neither ≡ by_states was first second firsts seconds neither
      both true e =
          by_alike was second first _ _ _ (same-turned first second true e) ∙ sym (one (same_true first second e)) ∙ sym (by_alike was first second _ _ _ e)
      both false e = other e (same first was) refl

module _ (v : Versions) (id : ℕ) where
  pub taken-swapped : taken_of (swapped v) id ≡ taken_of v id
  taken-swapped = by_turned (state_of v.ancestor id) (state_of v.first id) (state_of v.second id) (state_of v.first id) (state_of v.second id) [] (λ e. e)

  pub conflict-swapped : conflict_of (swapped v) id ≡ conflict_of v id
  conflict-swapped = by_turned (state_of v.ancestor id) (state_of v.first id) (state_of v.second id) false false true (λ e. refl)

-- The order: each id once, and no other

among_append : (l r : List ℕ) (n : ℕ) → among (l ++ r) n ≡ (among l n || among r n)
unfolding some
among_append [] r n = refl
among_append (m ∷ l) r n = ap (λ (t : Bool). eqb m n || t) (among_append l r n) ∙ or_on (eqb m n) (among l n) (among r n)
  where
    or_on : (a b c : Bool) → (a || (b || c)) ≡ ((a || b) || c)
    or_on true b c = refl
    or_on false b c = refl

-- a number that passes is among those that do, and one that does not is none of them
among-passed : (p : ℕ → Bool) (r : List ℕ) (n : ℕ) → p n ≡ true → among (keep p r) n ≡ among r n
unfolding some keep
among-passed p [] n h = refl
among-passed p (m ∷ r) n h = by (p m) refl (eqb m n) refl (among-passed p r n h)
  where
    by : (t : Bool) → p m ≡ t → (u : Bool) → eqb m n ≡ u → among (keep p r) n ≡ among r n → among (m ∷ keep p r when p m else keep p r) n ≡ (eqb m n || among r n)
    by true e u f on = ap (λ (l : List ℕ). among l n) (when_yes _ _ e) ∙ ap (λ (t : Bool). eqb m n || t) on
    by false e true f on = absurd (true-not-false h (ap p (sym (eqb-true m n f)) ∙ e))
    by false e false f on = ap (λ (l : List ℕ). among l n) (when_no _ _ e) ∙ on ∙ ap (λ (t : Bool). t || among r n) (sym f)

among_stopped : (p : ℕ → Bool) (r : List ℕ) (n : ℕ) → p n ≡ false → among (keep p r) n ≡ false
unfolding some keep
among_stopped p [] n h = refl
among_stopped p (m ∷ r) n h = by (p m) refl (eqb m n) refl (among_stopped p r n h)
  where
    by : (t : Bool) → p m ≡ t → (u : Bool) → eqb m n ≡ u → among (keep p r) n ≡ false → among (m ∷ keep p r when p m else keep p r) n ≡ false
    by true e true f on = absurd (true-not-false (ap p (sym (eqb-true m n f)) ∙ e) h)
    by true e false f on = ap (λ (l : List ℕ). among l n) (when_yes _ _ e) ∙ ap₂ ◌||◌ f on
    by false e u f on = ap (λ (l : List ℕ). among l n) (when_no _ _ e) ∙ on

module _ (l r : List ℕ) where
  among-joined : (n : ℕ) → among (joined l r) n ≡ (among l n || among r n)
  among-joined n = among_append l (keep (λ m. not (among l m)) r) n ∙ by (among l n) refl
    where
      by : (t : Bool) → among l n ≡ t → (among l n || among (keep (λ m. not (among l m)) r) n) ≡ (among l n || among r n)
      by true e = ap (λ (t : Bool). t || among (keep (λ m. not (among l m)) r) n) e ∙ ap (λ (t : Bool). t || among r n) (sym e)
      by false e = ap (λ (t : Bool). among l n || t) (among-passed (λ m. not (among l m)) r n (ap not e))

  alone_append : (k : List ℕ) → Alone k → Alone l → ((n : ℕ) → among k n ≡ true → among l n ≡ false) → Alone (k ++ l)
  unfolding Alone some
  alone_append [] a b h = b
  alone_append (n ∷ k) a b h = (
    among_append k l n ∙ ap₂ ◌||◌ a.0 (h n (ap (λ (t : Bool). t || among k n) (eq-eqb n n refl))),
    alone_append k a.1 b (λ m e. h m (or_right (eqb n m) (among k m) e)),
  )

alone-joined : (l r : List ℕ) → Alone l → Alone r → Alone (joined l r)
alone-joined l r a b =
    alone_append (keep (λ m. not (among l m)) r) [] l a (alone-keep (λ m. not (among l m)) r b) (λ n e. among_stopped (λ m. not (among l m)) r n (ap not e))

module _ (v : Versions) (e : Edited v) where
  pub order-alone : Alone (order v)
  unfolding order
  order-alone =
      alone-joined (joined (ids_of v.ancestor) (ids_of v.first)) (ids_of v.second)
      (alone-joined (ids_of v.ancestor) (ids_of v.first) (ids-alone v.ancestor e.of_ancestor e.all.ancestor) (ids-alone v.first e.of_first e.all.first))
      (ids-alone v.second e.of_second e.all.second)

  among-order : (id : ℕ) → among (order v) id ≡ (among (ids_of v.ancestor) id || among (ids_of v.first) id || among (ids_of v.second) id)
  unfolding order
  among-order id =
      among-joined (joined (ids_of v.ancestor) (ids_of v.first)) (ids_of v.second) id
      ∙ ap (λ (t : Bool). t || among (ids_of v.second) id) (among-joined (ids_of v.ancestor) (ids_of v.first) id)

  -- an id of none of the three is missing in each
  unlisted : (s : List ℕ) (bytes : Bytes s) (verdict : (read_table s).verdict ≡ Ok tt) (id : ℕ) → among (ids_of s) id ≡ false → state_of s id ≡ []
  unlisted s bytes verdict id h =
      state_picked s bytes verdict id ∙ pick-none id (records_in s bytes verdict) (ap (λ (l : List ℕ). among l id) (ids_borne s bytes verdict) ∙ h)

  module _ (id : ℕ) (h : among (order v) id ≡ false) where
    none : (state_of v.first id ≡ []) × (state_of v.second id ≡ [])
    none =
        let both = none_or (among (ids_of v.ancestor) id || among (ids_of v.first) id) (among (ids_of v.second) id) (sym (among-order id) ∙ h) in (
          unlisted v.first e.of_first e.all.first id (none_or (among (ids_of v.ancestor) id) (among (ids_of v.first) id) both.0).1,
          unlisted v.second e.of_second e.all.second id both.1,
        )

    alike : same (state_of v.first id) (state_of v.second id) ≡ true
    alike = same-yes _ _ (none.0 ∙ sym none.1)

    pub taken-unlisted : taken_of v id ≡ []
    taken-unlisted = by_alike (state_of v.ancestor id) (state_of v.first id) (state_of v.second id) _ _ _ alike ∙ none.0

    pub unlisted-alike : conflict_of v id ≡ false
    unlisted-alike = by_alike (state_of v.ancestor id) (state_of v.first id) (state_of v.second id) _ _ _ alike

  -- a record that is taken bears its id
  bears : (s : List ℕ) (bytes : Bytes s) (verdict : (read_table s).verdict ≡ Ok tt) (id : ℕ) → is_record (state_of s id) ≡ true → id_in (state_of s id) ≡ id
  bears s bytes verdict id h =
      let f = state_picked s bytes verdict id in
      ap id_in f ∙ pick-bears id (records_in s bytes verdict) (ap is_record (sym f) ∙ h)

  pub taken-bears : (id : ℕ) → is_record (taken_of v id) ≡ true → id_in (taken_of v id) ≡ id
  taken-bears id =
      by_cases (λ (state : List ℕ). is_record state ≡ true → id_in state ≡ id) (state_of v.ancestor id) (state_of v.first id) (state_of v.second id)
      (bears v.first e.of_first e.all.first id) (bears v.second e.of_second e.all.second id) (λ z. absurd (omega (arith, ltb-true 0 0 z)))

  -- the records taken: for each id its own, no two with one id
  pub taken-picked : (id : ℕ) → pick id (taken_records v) ≡ taken_of v id
  unfolding taken_records
  taken-picked id = pick-kept (taken_of v) taken-bears (order v) id ∙ listed (among (order v) id) refl
    where
      listed : (t : Bool) → among (order v) id ≡ t → (taken_of v id when among (order v) id else []) ≡ taken_of v id
      listed true f = when_yes _ _ f
      listed false f = when_no _ _ f ∙ sym (taken-unlisted id f)

  pub taken-alone : Alone (map id_in (taken_records v))
  unfolding taken_records
  taken-alone = alone-kept (taken_of v) taken-bears (order v) order-alone

  pub taken-records : All (λ r. is_record r ≡ true) (taken_records v)
  unfolding taken_records
  taken-records = all-kept (map (taken_of v) (order v))

-- the copies swapped: the same records
pub edited_swapped : {v : Versions} → Edited v → Edited (swapped v)
edited_swapped e = record {
  all = record { ancestor = e.all.ancestor; first = e.all.second; second = e.all.first };
  of_ancestor = e.of_ancestor;
  of_first = e.of_second;
  of_second = e.of_first;
}

pub swapped_perm : (v : Versions) → Edited v → Permᴰ (taken_records v) (taken_records (swapped v))
swapped_perm v e =
    let f = edited_swapped e in
    pick_perm (taken_records v) (taken_records (swapped v)) (taken-alone v e) (taken-alone (swapped v) f) (taken-records v e) (taken-records (swapped v) f)
    (λ id. taken-picked v e id ∙ sym (taken-swapped v id) ∙ sym (taken-picked (swapped v) f id))
