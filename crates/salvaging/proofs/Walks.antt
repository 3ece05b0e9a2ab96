-- Laws of the walk: what an acceptable record is, and what a step does. Assumes nothing.
use Prim.Native.Nat.{ℕ, zero, suc, ◌+◌, ◌-◌, ◌<◌, ◌≤◌}
use native.Mathlib.Omega.{arith}
use mathlib.Core.Path.{◌≡◌, refl, ap, sym, subst, ◌∙◌}
use mathlib.Core.List.{List, [], ◌∷◌}
use mathlib.Core.Bool.{Bool, true, false}
use mathlib.Core.Logic.{⊎_elim}
use lib.ListN.{length, get_or, set, length-map}
use lib.Dec.{eqb}
use lib.Seq.{get_or-set_same, get_or-set_other}
use borrow.Author.Tests.{eqb-false, ne_eqb}
use Rattle.search.specs.Choice.{◌when◌else◌}
use Rattle.search.specs.Find.{first}
use Rattle.search.proofs.Choice.{when_yes, when_no, when_cases, true-not-false, both_true, lt_or_le}
use Rattle.search.proofs.Find.{first_ge, first_le, first_miss, first_hit}
use Rattle.table.specs.Limits.{max_chains}
use Rattle.table.specs.Bytes.{word}
use Rattle.table.specs.Record.{blank, form_at, id_at, tasks_at, length_at, row_at}
use Rattle.table.specs.Find.{row_of}
use Rattle.table.specs.Fault.{mark_of, is_chain, beside_fault}
use Rattle.table.specs.Read.{plus}
use Rattle.table.specs.declared.Row.{Row}
use Rattle.table.specs.declared.Table.{Table}
use Rattle.table.specs.declared.before.Before.{Before}
use Rattle.table.specs.declared.Mark.TheVariants.{Chain}
use Rattle.std.specs.Prelude.{is_ok}
use Rattle.std.specs.declared.result.Result.TheVariants.{Ok, Err}
use Rattle.table.specs.Refusal.{Verdict}
use Rattle.table.proofs.Earlier.{before_more}
use Rattle.table.proofs.Marks.{chain-told}
use Rattle.table.proofs.Faultless.{ChainRight, chain-right, BesideRight, beside-right}
use Rattle.salvaging.specs.Kept.{form_beside, acceptable, kept}
use Rattle.salvaging.specs.Code.Walk.{Knows, InOrder}

accepted-told : (v : Verdict) → is_ok v ≡ true → v ≡ Ok tt
accepted-told (Ok u) e = refl
accepted-told (Err f) e = absurd (true-not-false e refl)

module _ (s : List ℕ) (at : ℕ) (t : Table) where
  -- what an acceptable record is
  pub record Acceptable : Type 0 where
    pub mark : mark_of (word 2 s at) ≡ Chain
    pub beside : beside_fault s at (form_beside s at t) t ≡ Ok tt
    pub right : BesideRight s at (form_beside s at t) t
    pub chain : ChainRight s at t

  pub acceptable-says : acceptable s at t ≡ true → Acceptable
  unfolding acceptable
  acceptable-says e =
      let both = both_true (is_chain (mark_of (word 2 s at))) _ e in
      let beside = accepted-told _ both.1 in
      let right = beside-right s at (form_beside s at t) t beside in
      record { mark = chain-told _ both.0; beside = beside; right = right; chain = chain-right s at t right.chain }

  -- where a chain's mark stands, the reader's judgement decides
  pub by-verdict : mark_of (word 2 s at) ≡ Chain → acceptable s at t ≡ is_ok (beside_fault s at (form_beside s at t) t)
  unfolding acceptable
  by-verdict m = rw m

  pub acceptable-given : mark_of (word 2 s at) ≡ Chain → beside_fault s at (form_beside s at t) t ≡ Ok tt → acceptable s at t ≡ true
  acceptable-given m e = rw (by-verdict m, e)

  -- none is acceptable whose mark is no chain's, none at the end and none beside 16 rows
  pub no_chain : is_chain (mark_of (word 2 s at)) ≡ false → acceptable s at t ≡ false
  unfolding acceptable
  no_chain e = rw e

  pub not-whole : length s < at + 12 → acceptable s at t ≡ false
  not-whole l = by (acceptable s at t) refl
    where
      by : (b : Bool) → acceptable s at t ≡ b → b ≡ false
      by true e = absurd (omega (arith, l, (acceptable-says e).chain.head.there))
      by false e = refl

  pub none_beside : t.count ≡ max_chains → acceptable s at t ≡ false
  none_beside n = by (acceptable s at t) refl
    where
      by : (b : Bool) → acceptable s at t ≡ b → b ≡ false
      by true e = absurd ((acceptable-says e).right.room n)
      by false e = refl

-- the first row of a table with one row more
pub first-added : (t : Table) (r : Row) → length t.row ≡ max_chains → t.count ≡ 0 → row_of (plus t r) 0 ≡ r
first-added t r long e = ap (λ n. get_or (set t.row n r) 0 blank) e ∙ get_or-set_same t.row 0 r blank (omega (arith, long))

pub first-stays : (t : Table) (r : Row) → (t.count ≡ 0 → ⊥) → row_of (plus t r) 0 ≡ row_of t 0
first-stays t r some = get_or-set_other t.row t.count 0 r blank (λ e. some (sym e))

-- the form that the code asks for
pub form_needed : (s : List ℕ) (at : ℕ) {before : Before} {form : ℕ} {t : Table} → Knows before form t → (form_at s at when eqb before.count 0 else form) ≡ form_beside s at t
unfolding form_beside
form_needed s at {before = before} {form = form} {t = t} b = rw (← b.keeps.count)
    (when_cases (λ f. f ≡ (form_at s at when eqb before.count 0 else (row_of t 0).form)) (eqb before.count 0)
    (λ e. sym (when_yes _ _ e)) (λ e. b.form_is (eqb-false _ _ e) ∙ sym (when_no _ _ e)))

module _ (s : List ℕ) where
  -- at the end nothing is kept
  kept-end : (n at : ℕ) (t : Table) → length s ≤ at → kept n s at t ≡ []
  unfolding kept
  kept-end zero at t l = refl
  kept-end (suc n) at t l = when_no _ _ (not-whole s at t (omega arith)) ∙ kept-end n (at + 1) t (omega arith)

  -- with as many steps as bytes are left, more change nothing
  kept_same : (n m at : ℕ) (t : Table) → length s - at ≤ n → length s - at ≤ m → kept n s at t ≡ kept m s at t
  unfolding kept
  kept_same zero m at t a b = sym (kept-end m at t (omega arith))
  kept_same (suc n) zero at t a b = kept-end (suc n) at t (omega arith)
  kept_same (suc n) (suc m) at t a b = ⊎_elim
      (λ l. rw (kept_same n m (at + length_at s at) (plus t (row_at s at)) (omega arith) (omega arith), kept_same n m (at + 1) t (omega arith) (omega arith)))
      (λ l. kept-end (suc n) at t l ∙ sym (kept-end (suc m) at t l))
      (lt_or_le at (length s))

  -- what is kept from a place on
  abbrev pub kept_from : ℕ → Table → List ℕ
  kept_from at t = kept (length s - at) s at t

  pub from_end : (at : ℕ) (t : Table) → length s ≤ at → kept_from at t ≡ []
  from_end at t l = kept-end (length s - at) at t l

  -- a record that is acceptable is kept
  pub from-keep : (at : ℕ) (t : Table) → acceptable s at t ≡ true → kept_from at t ≡ at ∷ kept_from (at + length_at s at) (plus t (row_at s at))
  unfolding kept
  from-keep at t e =
      let there = (acceptable-says s at t e).chain.there in
      let n : length s - at ≡ suc (length s - (at + 1)) = omega (arith, there) in
      rw n (when_yes _ _ e ∙ ap (λ (l : List ℕ). at ∷ l) (kept_same (length s - (at + 1)) (length s - (at + length_at s at)) (at + length_at s at) (plus t (row_at s at)) (omega arith) (omega arith)))

  -- else the walk moves on one byte
  pub from-move : (at : ℕ) (t : Table) → acceptable s at t ≡ false → kept_from at t ≡ kept_from (at + 1) t
  unfolding kept
  from-move at t e = ⊎_elim
      (λ l. let n : length s - at ≡ suc (length s - (at + 1)) = omega (arith, l) in rw n (when_no _ _ e))
      (λ l. from_end at t l ∙ sym (from_end (at + 1) t (omega arith)))
      (lt_or_le at (length s))

  -- and over a stretch where none is
  pub from-over : (n at : ℕ) (t : Table) → ((i : ℕ) → at ≤ i → i < at + n → acceptable s i t ≡ false) → kept_from at t ≡ kept_from (at + n) t
  from-over zero at t h = let e : at + 0 ≡ at = omega arith in rw e
  from-over (suc n) at t h =
      let e : at + suc n ≡ at + 1 + n = omega arith in
      rw e (from-move at t (h at (omega arith) (omega arith)) ∙ from-over n (at + 1) t (λ i a b. h i (omega arith) (omega arith)))

  -- beside 16 rows none is
  pub from-full : (at : ℕ) (t : Table) → t.count ≡ max_chains → kept_from at t ≡ []
  from-full at t e = from-over (length s) at t (λ i a b. none_beside s i t e) ∙ from_end (at + length s) t (omega arith)

  -- the records kept stand one after the other, and are no more than there is room for
  earlier : (at to : ℕ) (places : List ℕ) → at ≤ to → InOrder s to places → InOrder s at places
  unfolding InOrder
  earlier at to [] l h = omega arith
  earlier at to (p ∷ places) l h = (omega arith, h.1)

  pub kept-order : (n at : ℕ) (t : Table) → at ≤ length s → InOrder s at (kept n s at t)
  unfolding kept InOrder
  kept-order zero at t l = l
  kept-order (suc n) at t l = when_cases (InOrder s at) (acceptable s at t)
      (λ e. (omega arith, kept-order n (at + length_at s at) (plus t (row_at s at)) (acceptable-says s at t e).chain.there))
      (λ e. ⊎_elim (λ k. earlier at (at + 1) (kept n s (at + 1) t) (omega arith) (kept-order n (at + 1) t (omega arith)))
      (λ k. rw (kept-end n (at + 1) t (omega arith)) l)
      (lt_or_le at (length s)))

  pub kept-few : (n at : ℕ) (t : Table) → t.count ≤ max_chains → t.count + length (kept n s at t) ≤ max_chains
  unfolding kept
  kept-few zero at t l = omega arith
  kept-few (suc n) at t l = when_cases (λ (ps : List ℕ). t.count + length ps ≤ max_chains) (acceptable s at t)
      (λ e. let room : t.count ≡ max_chains → ⊥ = (acceptable-says s at t e).right.room in
      omega (arith, kept-few n (at + length_at s at) (plus t (row_at s at)) (omega (arith, l, room))))
      (λ e. kept-few n (at + 1) t l)

  -- the first acceptable one is kept, where there is one
  module _ (at place : ℕ) (t : Table) (inside : at ≤ length s) (found : place ≡ first (λ i. acceptable s i t) at (length s - at)) where
    over : kept_from at t ≡ kept_from place t
    over =
        let a = first_ge (λ i. acceptable s i t) at (length s - at) in
        let e : at + (place - at) ≡ place = omega (arith, found, a) in
        rw e at (from-over (place - at) at t (λ i l h. first_miss (λ j. acceptable s j t) at (length s - at) i l (omega (arith, found, h, e))))

    pub found_none : place ≡ length s → kept_from at t ≡ []
    found_none e = over ∙ from_end place t (omega (arith, e))

    pub found-one : (place ≡ length s → ⊥) → acceptable s place t ≡ true
    found-one h =
        let l = first_le (λ i. acceptable s i t) at (length s - at) in
        subst (λ p. acceptable s p t ≡ true) (sym found) (first_hit (λ i. acceptable s i t) at (length s - at) (omega (arith, h, found, l)))

    pub found-kept : (place ≡ length s → ⊥) → kept_from at t ≡ place ∷ kept_from (place + length_at s place) (plus t (row_at s place))
    found-kept h = over ∙ from-keep place t (found-one h)

-- what the code knows beside one row more
pub beside-more : (s : List ℕ) (place : ℕ) {before : Before} {form : ℕ} {t : Table} → Knows before form t → length before.ids ≡ max_chains → acceptable s place t ≡ true
    → Knows (record { ids = set before.ids before.count (id_at s place); count = before.count + 1; tasks = before.tasks + tasks_at s place }) (form_at s place) (plus t (row_at s place))
unfolding row_at form_beside
beside-more s place {before} {form} {t} b size e =
    record { keeps = before_more t (row_at s place) b.keeps; form_is = λ some. by t.count refl }
  where
    rows : length t.row ≡ max_chains
    rows = sym (length-map t.row (λ (r : Row). r.id)) ∙ ap length (sym b.keeps.bear) ∙ size

    by : (n : ℕ) → t.count ≡ n → form_at s place ≡ (row_of (plus t (row_at s place)) 0).form
    by zero f = ap (λ (r : Row). r.form) (sym (first-added t (row_at s place) rows f))
    by (suc n) f =
        let before : t.count ≡ 0 → ⊥ = λ z. omega (arith, z, f) in
        (acceptable-says s place t e).right.form ∙ when_no _ _ (ne_eqb t.count 0 before) ∙ ap (λ (r : Row). r.form) (sym (first-stays t (row_at s place) before))
