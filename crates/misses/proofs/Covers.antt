-- A combination costs no more than the overload chains' terms add in any t from 1 on: of each chain it has active segments of one
-- segment, and that costs no more than the dearest. Assumes nothing.
use Prim.Native.Nat.{ℕ, suc, ◌+◌, ◌/◌, ◌%◌, ◌^◌, ◌≤◌, ◌<◌}
use mathlib.Core.Path.{◌≡◌, refl, ap, ap₂, sym, subst, ◌∙◌}
use mathlib.Core.Bool.{Bool, true, false, ◌&&◌}
use mathlib.Core.List.{List, [], ◌∷◌, ◌++◌, map}
use native.Mathlib.Omega.{arith}
use native.Mathlib.Nat.{div-one, mul-le-mul_right, le_refl, le_trans, le_of_eq}
use native.Mathlib.Decide.{ℕ_discrete}
use lib.Dec.{eqb}
use lib.ListN.{length}
use lib.Pow.{shr-shr}
use borrow.Author.Tests.{eq-eqb, ne_eqb, eqb-true}
use Rattle.search.specs.Choice.{◌when◌else◌}
use Rattle.search.specs.Lists.{sum_of, most_of, All, every}
use Rattle.search.proofs.Choice.{when_yes, when_no, when_cases}
use Rattle.search.proofs.Lists.{sum_append, perm_sum}
use Rattle.table.specs.Code.Good.{GoodRow}
use Rattle.table.specs.declared.Row.{Row}
use Rattle.table.specs.Code.Good.{GoodDistances}
use Rattle.arrivals.specs.Arrivals.{δ}
use Rattle.arrivals.proofs.Counts.{η-some}
use Rattle.segments.specs.Actives.{Active, actives_of}
use Rattle.segments.specs.View.{View, view_of, sum, all_of, dearest_of}
use Rattle.segments.proofs.Lists.{sum-map, most-sum}
use Rattle.segments.proofs.Order.{label_of, label, labels}
use Rattle.segments.proofs.Renaming.{rename, to_view}
use Rattle.segments.proofs.Views.{view_list, view_overload}
use Rattle.windows.specs.Demand.{asynchronous, term_of, typical}
use Rattle.misses.specs.Overloads.{Overload, overload, overloads, Piece, piece, pieces_from}
use Rattle.misses.specs.Sets.{members, agree, together, set_cost}
use Rattle.misses.proofs.Bools.{and_left, and_right}

-- those of a mask are some of all
module _ (f : Piece → ℕ) where
  pub members-sum : (ps : List Piece) (m : ℕ) → sum_of f (members ps m) ≤ sum_of f ps
  unfolding members sum_of
  members-sum [] m = le_refl 0
  members-sum (p ∷ ps) m =
      when_cases {x = p ∷ members ps (m / 2)} {y = members ps (m / 2)} (λ l. sum_of f l ≤ f p + sum_of f ps) _
      (λ e. omega (arith, members-sum ps (m / 2))) (λ e. omega (arith, members-sum ps (m / 2)))

module _ (P : Piece → Type 0) where
  members-all : (ps : List Piece) (m : ℕ) → All P ps → All P (members ps m)
  unfolding members
  members-all [] m h = tt
  members-all (p ∷ ps) m h =
      when_cases {x = p ∷ members ps (m / 2)} {y = members ps (m / 2)} (All P) _
      (λ e. (h.0, members-all ps (m / 2) h.1)) (λ e. members-all ps (m / 2) h.1)

-- the mask of two lists in a row: the lowest bits are the first one's
pub members_append : (ps rs : List Piece) (m : ℕ) → members (ps ++ rs) m ≡ members ps m ++ members rs (m / 2 ^ length ps)
unfolding members ◌when◌else◌
members_append [] rs m = ap (members rs) (sym (div-one m))
members_append (p ∷ ps) rs m = go (eqb (m % 2) 1) (members_append ps rs (m / 2) ∙ ap (λ k. members ps (m / 2) ++ members rs k) (shr-shr m 1 (length ps) ∙ ap (λ k. m / 2 ^ k) (omega arith)))
  where
    go : (b : Bool) → members (ps ++ rs) (m / 2) ≡ members ps (m / 2) ++ members rs (m / 2 ^ suc (length ps))
        → (p ∷ members (ps ++ rs) (m / 2) when b else members (ps ++ rs) (m / 2)) ≡ (p ∷ members ps (m / 2) when b else members ps (m / 2)) ++ members rs (m / 2 ^ suc (length ps))
    go true e = ap (λ l. p ∷ l) e
    go false e = e

-- of those that may stand together, each part may
every-left : (p : Piece → Bool) (ps rs : List Piece) → every p (ps ++ rs) ≡ true → every p ps ≡ true
unfolding every
every-left p [] rs e = refl
every-left p (x ∷ ps) rs e = ap₂ ◌&&◌ (and_left (p x) _ e) (every-left p ps rs (and_right (p x) _ e))

pub together-left : (ps rs : List Piece) → together (ps ++ rs) ≡ true → together ps ≡ true
unfolding together
together-left [] rs e = refl
together-left (p ∷ ps) rs e =
    ap₂ ◌&&◌ (every-left (agree p) ps rs (and_left (every (agree p) (ps ++ rs)) _ e)) (together-left ps rs (and_right (every (agree p) (ps ++ rs)) _ e))

pub together-right : (ps rs : List Piece) → together (ps ++ rs) ≡ true → together rs ≡ true
unfolding together
together-right [] rs e = e
together-right (p ∷ ps) rs e = together-right ps rs (and_right (every (agree p) (ps ++ rs)) _ e)

-- what the active segments of the segment j cost
abbrev in_segment : ℕ → ℕ → ℕ → ℕ
in_segment j segment cost = cost when eqb segment j else 0

abbrev piece_in : ℕ → Piece → ℕ
piece_in j p = in_segment j p.segment p.cost

abbrev label_in : ℕ → ℕ × ℕ → ℕ
label_in j l = in_segment j l.0 l.1

-- those of one chain that may stand together are all of one segment
module _ (n : ℕ) where
  one-segment : (p : Piece) (ps : List Piece) → p.chain ≡ n → All (λ r. r.chain ≡ n) ps → every (agree p) ps ≡ true → set_cost ps ≡ sum_of (piece_in p.segment) ps
  unfolding every sum_of
  one-segment p [] e h f = refl
  one-segment p (r ∷ ps) e h f =
      let same : r.segment ≡ p.segment = sym (eqb-true _ _ (sym (when_yes _ _ (eq-eqb p.chain r.chain (e ∙ sym h.0))) ∙ and_left (agree p r) (every (agree p) ps) f)) in
      ap₂ ◌+◌ (sym (when_yes r.cost 0 (eq-eqb _ _ same))) (one-segment p ps e h.1 (and_right (agree p r) (every (agree p) ps) f))

  chain-segment : (ps : List Piece) → All (λ r. r.chain ≡ n) ps → together ps ≡ true → (j : ℕ) × (set_cost ps ≡ sum_of (piece_in j) ps)
  unfolding together sum_of
  chain-segment [] h e = (0, refl)
  chain-segment (p ∷ ps) h e =
      (p.segment, ap₂ ◌+◌ (sym (when_yes p.cost 0 (eq-eqb p.segment p.segment refl))) (one-segment p ps h.0 h.1 (and_left (every (agree p) ps) (together ps) e)))

-- a segment of a view costs no more than the dearest
block_same : (k : ℕ) (l : List ℕ) → sum_of (label_in k) (map (label k) l) ≡ sum l
unfolding sum_of
block_same k [] = refl
block_same k (c ∷ l) = ap₂ ◌+◌ (when_yes c 0 (eq-eqb k k refl)) (block_same k l)

block-other : (k i : ℕ) (l : List ℕ) → (i ≡ k → ⊥) → sum_of (label_in k) (map (label i) l) ≡ 0
unfolding sum_of
block-other k i [] h = refl
block-other k i (c ∷ l) h = ap₂ ◌+◌ (when_no c 0 (ne_eqb i k h)) (block-other k i l h)

past-none : (k i : ℕ) (ls : List (List ℕ)) → k < i → sum_of (label_in k) (labels i ls) ≡ 0
unfolding labels sum_of
past-none k i [] h = refl
past-none k i (l ∷ ls) h =
    sum_append (label_in k) (map (label i) l) (labels (i + 1) ls)
    ∙ omega (arith, block-other k i l (λ e. omega arith), past-none k (i + 1) ls (omega arith))

in_most : (k i : ℕ) (ls : List (List ℕ)) → sum_of (label_in k) (labels i ls) ≤ most_of sum ls
unfolding labels sum_of most_of
in_most k i [] = le_refl 0
in_most k i (l ∷ ls) =
    let a = sum_append (label_in k) (map (label i) l) (labels (i + 1) ls) in
    elim (ℕ_discrete i k) [
      | yes e ↦ omega (arith, a, ap (λ j. sum_of (label_in k) (map (label j) l)) e, block_same k l, past-none k (i + 1) ls (omega arith))
      | no e ↦ omega (arith, a, block-other k i l e, in_most k (i + 1) ls)
    ]

-- other numbers of the segments take nothing away
renamed-sum : (f : ℕ → ℕ) (j : ℕ) (l : List (ℕ × ℕ)) → sum_of (label_in j) l ≤ sum_of (label_in (f j)) (map (rename f) l)
unfolding sum_of
renamed-sum f j [] = le_refl 0
renamed-sum f j (i ∷ l) = omega (arith, renamed-sum f j l, one)
  where
    one : label_in j i ≤ label_in (f j) (rename f i)
    one = when_cases {x = i.1} {y = 0} (λ n. n ≤ label_in (f j) (rename f i)) (eqb i.0 j)
        (λ e. le_of_eq (sym (when_yes i.1 0 (eq-eqb _ _ (ap f (eqb-true i.0 j e)))))) (λ e. omega arith)

-- so what a combination has of one chain costs no more than the chain's dearest segment
module _ (a b : Row) where
  segment-dearest : (j : ℕ) → sum_of (label_in j) (map label_of (actives_of a b)) ≤ dearest_of (view_of a b)
  segment-dearest j =
      let r = to_view a b in
      le_trans (renamed-sum r.name j (map label_of (actives_of a b))) (le_trans (le_of_eq (perm_sum (label_in (r.name j)) r.order)) (in_most (r.name j) 0 (view_of a b).segments))

  chain-dearest : (n m : ℕ) → together (members (map (piece n) (actives_of a b)) m) ≡ true → set_cost (members (map (piece n) (actives_of a b)) m) ≤ dearest_of (view_of a b)
  chain-dearest n m e =
      let ps = map (piece n) (actives_of a b) in
      let s = chain-segment n (members ps m) (members-all (λ r. r.chain ≡ n) ps m (all-pieces (actives_of a b))) e in
      omega (
        arith,
        s.1,
        members-sum (piece_in s.0) ps m,
        sum-map (piece n) (piece_in s.0) (actives_of a b),
        sum-map label_of (label_in s.0) (actives_of a b),
        segment-dearest s.0,
      )
    where
      all-pieces : (l : List Active) → All (λ r. r.chain ≡ n) (map (piece n) l)
      all-pieces [] = tt
      all-pieces (i ∷ l) = (refl, all-pieces l)

-- and the dearest segment no more than the chain's term
pub dearest-term : (v : View) → GoodDistances v.list → (t : ℕ) → 1 ≤ t → dearest_of v ≤ term_of δ v t
unfolding term_of
dearest-term v good t h =
    when_cases (λ n. dearest_of v ≤ n) v.free
    (λ e. omega (arith, most-sum sum v.segments, mul-le-mul_right (all_of v) (η-some good t h)))
    (λ e. when_cases (λ n. dearest_of v ≤ n) (asynchronous v.kind) (λ f. omega (arith, most-sum sum v.segments)) (λ f. le_refl (dearest_of v)))

-- a combination beside the chains without overload mark
module _ (b : Row) (t : ℕ) (some : 1 ≤ t) where
  abbrev terms : List View → ℕ
  terms vs = sum_of (λ v. term_of δ v t) vs

  abbrev views : List Row → List View
  views l = map (λ a. view_of a b) l

  abbrev set : ℕ → List Overload → ℕ → List Piece
  set n os m = members (pieces_from n os) m

  -- the first chain's part of a set, and the rest
  set-parts : (n : ℕ) (a : Row) (os : List Overload) (m : ℕ)
      → set n (overload a b ∷ os) m ≡ members (map (piece n) (actives_of a b)) m ++ set (n + 1) os (m / 2 ^ length (map (piece n) (actives_of a b)))
  unfolding pieces_from
  set-parts n a os m = members_append (map (piece n) (actives_of a b)) (pieces_from (n + 1) os) m

  set-none : (n m : ℕ) → set_cost (set n [] m) ≡ 0
  unfolding pieces_from members sum_of
  set-none n m = refl

  pub covered : (l : List Row) → All GoodRow l → (n m : ℕ) → together (set n (overloads b l) m) ≡ true
      → terms (typical (views l)) + set_cost (set n (overloads b l) m) ≤ terms (views l)
  unfolding overloads typical sum_of
  covered [] good n m e = omega (arith, set-none n m)
  covered (a ∷ l) good n m e = go (eqb a.overload 0) refl (covered l good.1)
    where
      go : (x : Bool) → eqb a.overload 0 ≡ x
          → ((k j : ℕ) → together (set k (overloads b l) j) ≡ true → terms (typical (views l)) + set_cost (set k (overloads b l) j) ≤ terms (views l))
          → terms (typical (views (a ∷ l))) + set_cost (set n (overloads b (a ∷ l)) m) ≤ terms (views (a ∷ l))
      go true f r =
          let o : overloads b (a ∷ l) ≡ overloads b l = when_yes _ _ f in
          let y : typical (views (a ∷ l)) ≡ view_of a b ∷ typical (views l) = when_yes _ _ (ap (λ k. eqb k 0) (view_overload a b) ∙ f) in
          omega (arith, r n m (sym (ap (λ os. together (set n os m)) o) ∙ e), ap terms y, ap (λ os. set_cost (set n os m)) o)
      go false f r =
          let o : overloads b (a ∷ l) ≡ overload a b ∷ overloads b l = when_no _ _ f in
          let y : typical (views (a ∷ l)) ≡ typical (views l) = when_no _ _ (ap (λ k. eqb k 0) (view_overload a b) ∙ f) in
          let own = members (map (piece n) (actives_of a b)) m in
          let k = m / 2 ^ length (map (piece n) (actives_of a b)) in
          let rest = set (n + 1) (overloads b l) k in
          let p : set n (overloads b (a ∷ l)) m ≡ own ++ rest = ap (λ os. set n os m) o ∙ set-parts n a (overloads b l) m in
          let w : together (own ++ rest) ≡ true = sym (ap together p) ∙ e in
          omega (
            arith,
            r (n + 1) k (together-right own rest w),
            ap terms y,
            ap set_cost p,
            sum_append (λ q. q.cost) own rest,
            chain-dearest a b n m (together-left own rest w),
            dearest-term (view_of a b) (subst GoodDistances (sym (view_list a b)) good.0.list) t some,
          )
