-- Records by the ids they bear: which one a list has for an id, and that lists with the same ones are alike but for their order. Assumes
-- nothing.
use Prim.Native.Nat.{ℕ, ◌≤◌}
use native.Mathlib.Omega.{arith}
use mathlib.Core.Path.{◌≡◌, refl, ap, sym, subst, ◌∙◌}
use mathlib.Core.List.{List, [], ◌∷◌, map, Permᴰ}
use mathlib.Core.Bool.{Bool, true, false, not, ◌||◌}
use lib.Dec.{eqb}
use lib.ListN.{length}
use borrow.Author.Tests.{eqb-true, eqb-false, eq-eqb, ne_eqb, ltb-true, ltb-false}
use Rattle.search.specs.Choice.{◌when◌else◌}
use Rattle.search.specs.Lists.{some, keep, All}
use Rattle.search.proofs.Choice.{when_yes, when_no, when_cases}
use Rattle.search.proofs.Keeping.{keep-map, all_keep}
use Rattle.search.proofs.Lists.{map_back}
use Rattle.search.proofs.Pairing.{all-each}
use Rattle.table.specs.Record.{id_at}
use Rattle.table.proofs.Firsts.{none_or}
use Rattle.merging.specs.Rule.{among}
use Rattle.merging.specs.Merge.{is_record}

-- the id that a record bears
abbrev pub id_in : List ℕ → ℕ
id_in r = id_at r 0

-- the first of the records that bears the id, none where none does
unfoldable pub pick : ℕ → List (List ℕ) → List ℕ
pick id [] = []
pick id (r ∷ rs) = r when eqb (id_in r) id else pick id rs

-- no number stands twice
unfoldable pub Alone : List ℕ → Type 0
Alone [] = Unit {0}
Alone (n ∷ l) = (among l n ≡ false) × Alone l

-- those that pass a test
pub among-keep : (p : ℕ → Bool) (l : List ℕ) (n : ℕ) → among l n ≡ false → among (keep p l) n ≡ false
unfolding some keep
among-keep p [] n h = refl
among-keep p (m ∷ l) n h =
    let g = none_or (eqb m n) (among l n) h in
    let on = among-keep p l n g.1 in
    when_cases (λ r. among r n ≡ false) (p m) (λ e. ap (λ (t : Bool). t || among (keep p l) n) g.0 ∙ on) (λ e. on)

pub alone-keep : (p : ℕ → Bool) (l : List ℕ) → Alone l → Alone (keep p l)
unfolding keep Alone
alone-keep p [] h = tt
alone-keep p (n ∷ l) h = when_cases Alone (p n) (λ e. (among-keep p l n h.0, alone-keep p l h.1)) (λ e. alone-keep p l h.1)

-- which record is picked
module _ (id : ℕ) (r : List ℕ) (rs : List (List ℕ)) where
  pub pick-here : id_in r ≡ id → pick id (r ∷ rs) ≡ r
  unfolding pick
  pick-here e = when_yes _ _ (eq-eqb _ _ e)

  pub pick-on : (id_in r ≡ id → ⊥) → pick id (r ∷ rs) ≡ pick id rs
  unfolding pick
  pick-on h = when_no _ _ (ne_eqb _ _ h)

pub pick-bears : (id : ℕ) (rs : List (List ℕ)) → is_record (pick id rs) ≡ true → id_in (pick id rs) ≡ id
unfolding pick
pick-bears id [] h = absurd (omega (arith, ltb-true 0 0 h))
pick-bears id (r ∷ rs) h = when_cases (λ (x : List ℕ). is_record x ≡ true → id_in x ≡ id) (eqb (id_in r) id) (λ e z. eqb-true _ _ e) (λ e z. pick-bears id rs z) h

-- whether two numbers are one
one_or_not : {A : Type 0} (m n : ℕ) → (m ≡ n → A) → ((m ≡ n → ⊥) → A) → A
one_or_not {A} m n f g = by (eqb m n) refl
  where
    by : (t : Bool) → eqb m n ≡ t → A
    by true e = f (eqb-true m n e)
    by false e = g (eqb-false m n e)

-- what is among one more number
module _ (m : ℕ) (l : List ℕ) (n : ℕ) where
  pub among-here : m ≡ n → among (m ∷ l) n ≡ true
  unfolding some
  among-here e = ap (λ (t : Bool). t || among l n) (eq-eqb m n e)

  pub among-on : (m ≡ n → ⊥) → among (m ∷ l) n ≡ among l n
  unfolding some
  among-on h = ap (λ (t : Bool). t || among l n) (ne_eqb m n h)

-- the states of some ids, each none or a record that bears its id: of those that are records, the one picked for an id is its own
module _ (g : ℕ → List ℕ) (bears : (id : ℕ) → is_record (g id) ≡ true → id_in (g id) ≡ id) where
  abbrev kept : List ℕ → List (List ℕ)
  kept ids = keep is_record (map g ids)

  kept-yes : (n : ℕ) (ids : List ℕ) → is_record (g n) ≡ true → kept (n ∷ ids) ≡ g n ∷ kept ids
  unfolding keep
  kept-yes n ids e = when_yes _ _ e

  kept_no : (n : ℕ) (ids : List ℕ) → is_record (g n) ≡ false → kept (n ∷ ids) ≡ kept ids
  unfolding keep
  kept_no n ids e = when_no _ _ e

  missing : (n : ℕ) → is_record (g n) ≡ false → g n ≡ []
  missing n e = by (g n) (ltb-false 0 (length (g n)) e)
    where
      by : (l : List ℕ) → length l ≤ 0 → l ≡ []
      by [] h = refl
      by (x ∷ l) h = absurd (omega arith)

  pub pick-kept : (ids : List ℕ) (id : ℕ) → pick id (kept ids) ≡ (g id when among ids id else [])
  unfolding keep some pick ◌when◌else◌
  pick-kept [] id = refl
  pick-kept (n ∷ ids) id = by (is_record (g n)) refl (pick-kept ids id)
    where
      by : (t : Bool) → is_record (g n) ≡ t → pick id (kept ids) ≡ (g id when among ids id else []) → pick id (kept (n ∷ ids)) ≡ (g id when among (n ∷ ids) id else [])
      by true e on = one_or_not n id
          (λ is. ap (pick id) (kept-yes n ids e) ∙ pick-here id (g n) (kept ids) (bears n e ∙ is) ∙ ap g is ∙ sym (when_yes (g id) [] (among-here n ids id is)))
          (λ no. ap (pick id) (kept-yes n ids e) ∙ pick-on id (g n) (kept ids) (λ z. no (sym (bears n e) ∙ z)) ∙ on ∙ ap (λ t. g id when t else []) (sym (among-on n ids id no)))
      by false e on = one_or_not n id
          (λ is. let none : g id ≡ [] = ap g (sym is) ∙ missing n e in
          ap (pick id) (kept_no n ids e) ∙ on ∙ nothing (among ids id) none ∙ sym none ∙ sym (when_yes (g id) [] (among-here n ids id is)))
          (λ no. ap (pick id) (kept_no n ids e) ∙ on ∙ ap (λ t. g id when t else []) (sym (among-on n ids id no)))
        where
          nothing : (t : Bool) → g id ≡ [] → (g id when t else []) ≡ []
          nothing true z = z
          nothing false z = refl

  -- they bear the ids of which there is a record
  ids-kept : (ids : List ℕ) → map id_in (kept ids) ≡ keep (λ n. is_record (g n)) ids
  unfolding keep
  ids-kept [] = refl
  ids-kept (n ∷ ids) = by (is_record (g n)) refl (ids-kept ids)
    where
      by : (t : Bool) → is_record (g n) ≡ t → map id_in (kept ids) ≡ keep (λ n. is_record (g n)) ids → map id_in (kept (n ∷ ids)) ≡ keep (λ n. is_record (g n)) (n ∷ ids)
      by true e on = ap (map id_in) (kept-yes n ids e) ∙ ap (λ (l : List ℕ). id_in (g n) ∷ l) on ∙ ap (λ m. m ∷ keep (λ n. is_record (g n)) ids) (bears n e) ∙ sym (when_yes _ _ e)
      by false e on = ap (map id_in) (kept_no n ids e) ∙ on ∙ sym (when_no _ _ e)

  pub alone-kept : (ids : List ℕ) → Alone ids → Alone (map id_in (kept ids))
  alone-kept ids h = subst Alone (sym (ids-kept ids)) (alone-keep (λ n. is_record (g n)) ids h)

pub all-kept : (states : List (List ℕ)) → All (λ r. is_record r ≡ true) (keep is_record states)
unfolding keep
all-kept [] = tt
all-kept (r ∷ rs) = when_cases (All (λ r. is_record r ≡ true)) (is_record r) (λ e. (e, all-kept rs)) (λ e. all-kept rs)

-- Lists of records, no two with one id

-- without the one that bears the id
abbrev without : ℕ → List (List ℕ) → List (List ℕ)
without n rs = keep (λ r. not (eqb (id_in r) n)) rs

module _ (n : ℕ) (r : List ℕ) (rs : List (List ℕ)) where
  without-here : id_in r ≡ n → without n (r ∷ rs) ≡ without n rs
  unfolding keep
  without-here e = when_no _ _ (ap not (eq-eqb _ _ e))

  without_on : (id_in r ≡ n → ⊥) → without n (r ∷ rs) ≡ r ∷ without n rs
  unfolding keep
  without_on h = when_yes _ _ (ap not (ne_eqb _ _ h))

pub pick-none : (id : ℕ) (rs : List (List ℕ)) → among (map id_in rs) id ≡ false → pick id rs ≡ []
unfolding some pick
pick-none id [] h = refl
pick-none id (r ∷ rs) h = let g = none_or (eqb (id_in r) id) (among (map id_in rs) id) h in pick-on id r rs (eqb-false _ _ g.0) ∙ pick-none id rs g.1

without-none : (n : ℕ) (rs : List (List ℕ)) → among (map id_in rs) n ≡ false → without n rs ≡ rs
unfolding some keep
without-none n [] h = refl
without-none n (r ∷ rs) h =
    let g = none_or (eqb (id_in r) n) (among (map id_in rs) n) h in
    without_on n r rs (eqb-false _ _ g.0) ∙ ap (λ (l : List (List ℕ)). r ∷ l) (without-none n rs g.1)

pick-without : (n : ℕ) (rs : List (List ℕ)) → pick n (without n rs) ≡ []
unfolding keep pick
pick-without n [] = refl
pick-without n (r ∷ rs) = let on = pick-without n rs in one_or_not (id_in r) n
    (λ is. ap (pick n) (without-here n r rs is) ∙ on)
    (λ no. ap (pick n) (without_on n r rs no) ∙ pick-on n r (without n rs) no ∙ on)

pick-others : (n id : ℕ) (rs : List (List ℕ)) → (n ≡ id → ⊥) → pick id (without n rs) ≡ pick id rs
unfolding keep pick
pick-others n id [] h = refl
pick-others n id (r ∷ rs) h = let on = pick-others n id rs h in one_or_not (id_in r) n
    (λ is. ap (pick id) (without-here n r rs is) ∙ on ∙ sym (pick-on id r rs (λ z. h (sym is ∙ z))))
    (λ no. ap (pick id) (without_on n r rs no) ∙ one_or_not (id_in r) id
    (λ is. pick-here id r (without n rs) is ∙ sym (pick-here id r rs is))
    (λ other. pick-on id r (without n rs) other ∙ on ∙ sym (pick-on id r rs other)))

-- the one that is picked in front of the others
pull : (n : ℕ) (rs : List (List ℕ)) → Alone (map id_in rs) → is_record (pick n rs) ≡ true → Permᴰ rs (pick n rs ∷ without n rs)
unfolding Alone pick
pull n [] d h = absurd (omega (arith, ltb-true 0 0 h))
pull n (r ∷ rs) d h = one_or_not (id_in r) n
    (λ is. rw (pick-here n r rs is, without-here n r rs is, without-none n rs (subst (λ m. among (map id_in rs) m ≡ false) is d.0)) (mathlib.Core.List.Permᴰ.refl (r ∷ rs)))
    (λ no. rw (pick-on n r rs no, without_on n r rs no)
    (mathlib.Core.List.Permᴰ.trans (mathlib.Core.List.Permᴰ.cons refl (pull n rs d.1 (rw (pick-on n r rs no) at h))) (mathlib.Core.List.Permᴰ.swap refl refl)))

-- two such lists that have the same record for each id are the same but for their order
pub pick_perm : (rs qs : List (List ℕ)) → Alone (map id_in rs) → Alone (map id_in qs) → All (λ r. is_record r ≡ true) rs → All (λ r. is_record r ≡ true) qs
    → ((id : ℕ) → pick id rs ≡ pick id qs) → Permᴰ rs qs
unfolding Alone pick
pick_perm [] [] d d' a b e = mathlib.Core.List.Permᴰ.nil
pick_perm [] (q ∷ qs) d d' a b e =
    absurd (omega (arith, ltb-true 0 (length q) b.0, ap length (e (id_in q) ∙ pick-here (id_in q) q qs refl)))
pick_perm (r ∷ rs) qs d d' a b e =
    let n = id_in r in
    let is : pick n qs ≡ r = sym (e n) ∙ pick-here n r rs refl in
    let front : Permᴰ qs (r ∷ without n qs) = subst (λ (x : List ℕ). Permᴰ qs (x ∷ without n qs)) is (pull n qs d' (ap is_record is ∙ a.0)) in
    let rest : (id : ℕ) → pick id rs ≡ pick id (without n qs) = λ id. one_or_not n id
    (λ same. subst (λ (m : ℕ). pick m rs ≡ pick m (without n qs)) same (pick-none n rs d.0 ∙ sym (pick-without n qs)))
    (λ no. sym (pick-on id r rs no) ∙ e id ∙ sym (pick-others n id qs no)) in
    let alone : Alone (map id_in (without n qs)) = subst Alone (keep-map id_in (λ m. not (eqb m n)) (λ q. not (eqb (id_in q) n)) qs (all-each _ (λ q. refl) qs)) (alone-keep (λ m. not (eqb m n)) (map id_in qs) d') in
    mathlib.Core.List.Permᴰ.trans (mathlib.Core.List.Permᴰ.cons refl (pick_perm rs (without n qs) d.1 alone a.1 (all_keep _ (λ q. is_record q ≡ true) qs b) rest)) (mathlib.Core.List.Permᴰ.symm front)

-- picked by the ids that they bear, they are all there
apart : (n : ℕ) (rs : List (List ℕ)) → among (map id_in rs) n ≡ false → All (λ r. id_in r ≡ n → ⊥) rs
unfolding some
apart n [] h = tt
apart n (r ∷ rs) h = let g = none_or (eqb (id_in r) n) (among (map id_in rs) n) h in (eqb-false _ _ g.0, apart n rs g.1)

picked : (rs : List (List ℕ)) → Alone (map id_in rs) → All (λ r. pick (id_in r) rs ≡ r) rs
unfolding Alone
picked [] d = tt
picked (r ∷ rs) d = (pick-here (id_in r) r rs refl, later rs (apart (id_in r) rs d.0) (picked rs d.1))
  where
    later : (qs : List (List ℕ)) → All (λ q. id_in q ≡ id_in r → ⊥) qs → All (λ q. pick (id_in q) rs ≡ q) qs → All (λ q. pick (id_in q) (r ∷ rs) ≡ q) qs
    later [] a b = tt
    later (q ∷ qs) a b = (pick-on (id_in q) r rs (λ e. a.0 (sym e)) ∙ b.0, later qs a.1 b.1)

pub pick_all : (rs : List (List ℕ)) → Alone (map id_in rs) → map (λ id. pick id rs) (map id_in rs) ≡ rs
pick_all rs d = map_back (λ id. pick id rs) id_in rs (picked rs d)
