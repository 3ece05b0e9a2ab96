-- The active segments gathered, where there are six or fewer: they are all held, with their capacities. Assumes nothing.
use Prim.Native.Nat.{ℕ, zero, suc, ◌+◌, ◌-◌, ◌≤◌, ◌<◌, min}
use mathlib.Core.Path.{◌≡◌, refl, ap, ap₂, sym, ◌∙◌}
use mathlib.Core.Bool.{false, ◌||◌, or-false}
use mathlib.Core.List.{List, [], ◌∷◌, ◌++◌, map}
use mathlib.Core.Logic.{⊎_elim}
use native.Mathlib.Omega.{arith}
use native.Mathlib.Nat.{le_trans}
use lib.Dec.{eqb, ltb}
use lib.ListN.{length, get_or, take, drop, replicate, length-map, get_or-eq_default}
use lib.Seq.{take_all, split_at, length-take-le, get_or-take}
use borrow.Author.Tests.{lt-ltb, le-ltb, ltb-false, eq-eqb}
use Rattle.search.specs.Lists.{All, some}
use Rattle.search.proofs.Choice.{when_yes, when_cases, lt_or_le}
use Rattle.search.proofs.Lists.{all_map, all_append}
use Rattle.table.specs.Limits.{max_overloads, max_capacity}
use Rattle.table.specs.Record.{pad}
use Rattle.table.specs.Record.{blank}
use Rattle.table.specs.Find.{row_of, rows}
use Rattle.table.specs.Code.Good.{GoodRow, GoodTable}
use Rattle.table.specs.declared.Row.{Row}
use Rattle.table.specs.declared.Table.{Table}
use Rattle.arrivals.specs.Arrivals.{δ}
use Rattle.segments.specs.Actives.{Active, actives_of}
use Rattle.segments.proofs.Bounds.{actives-each, all-max}
use Rattle.windows.specs.Demand.{others}
use Rattle.misses.specs.Overloads.{Overload, overloads, Piece, piece, pieces_from, pieces_of, capacities_of}
use Rattle.misses.specs.Code.Held.{six, gathered, piece_at, pieces_at, pieces_in, Few}
use Rattle.segments.specs.Code.Held.{dearest}
use Rattle.misses.specs.declared.Pieces.{Pieces}
use Rattle.misses.proofs.Bools.{some_append, some_at}
use Rattle.misses.proofs.Sixes.{six-length, six-at}
use Rattle.misses.proofs.Gathers.{capacities_length, overloads_append}

-- the chain itself has no overload mark, so the overload chains of its table are those beside it
pub beside-others : (t : Table) → GoodTable t → (at : ℕ) → at < t.count → (row_of t at).overload ≡ 0
    → overloads (row_of t at) (rows t) ≡ overloads (row_of t at) (others t at)
unfolding overloads
beside-others t good at h e =
    let b = row_of t at in
    let n : length (rows t) ≡ t.count = length-take-le t.count t.row (omega (arith, good.few, good.size)) in
    let z : suc at ≡ at + 1 = omega arith in
    ap (overloads b) (split_at (rows t) at blank (omega arith) ∙ ap (λ r. take at (rows t) ++ (r ∷ drop (suc at) (rows t))) (get_or-take t.count t.row at blank h))
    ∙ overloads_append b (take at (rows t)) (b ∷ drop (suc at) (rows t))
    ∙ ap (λ l. overloads b (take at (rows t)) ++ l) (when_yes _ _ (eq-eqb _ _ e) ∙ ap (λ k. overloads b (drop k (rows t))) z)
    ∙ sym (overloads_append b (take at (rows t)) (drop (at + 1) (rows t)))

-- each active segment out of the arrays
module _ (cs ss ks : List ℕ) where
  at_ext : (n i : ℕ) (ps : List Piece) → n ≡ length ps → ((j : ℕ) → j < length ps → piece_at cs ss ks (i + j) ≡ get_or ps j (piece_at [] [] [] 0)) → pieces_at cs ss ks n i ≡ ps
  unfolding pieces_at
  at_ext zero i [] e f = refl
  at_ext zero i (p ∷ ps) e f = absurd (omega arith)
  at_ext (suc n) i [] e f = absurd (omega arith)
  at_ext (suc n) i (p ∷ ps) e f = ap₂ ◌∷◌
      (let z : i + 0 ≡ i = omega arith in ap (piece_at cs ss ks) (sym z) ∙ f 0 (omega arith))
      (at_ext n (i + 1) ps (omega arith) (λ j h. let z : i + 1 + j ≡ i + suc j = omega arith in ap (piece_at cs ss ks) z ∙ f (suc j) (omega arith)))

six-of : (f : Piece → ℕ) (ps : List Piece) (d : Piece) (j : ℕ) → length ps ≤ max_overloads → j < length ps → get_or (six (map f ps)) j 0 ≡ f (get_or ps j d)
six-of f ps d j h l = six-at (map f ps) j (omega arith) ∙ go ps j l
  where
    go : (ps : List Piece) (j : ℕ) → j < length ps → get_or (map f ps) j 0 ≡ f (get_or ps j d)
    go [] j l = absurd (omega arith)
    go (p ∷ ps) zero l = refl
    go (p ∷ ps) (suc j) l = go ps j (omega arith)

-- 0s past the last are no more than the limit
above-zeros : (n : ℕ) → some (ltb max_capacity) (replicate n 0) ≡ false
unfolding some
above-zeros zero = refl
above-zeros (suc n) = above-zeros n

above-least : (c : ℕ) → ltb max_capacity (min (max_capacity + 1) c) ≡ ltb max_capacity c
above-least c = ⊎_elim
    (λ l. lt-ltb max_capacity (min (max_capacity + 1) c) (omega arith) ∙ sym (lt-ltb max_capacity c l))
    (λ l. le-ltb max_capacity (min (max_capacity + 1) c) (omega arith) ∙ sym (le-ltb max_capacity c l)) (lt_or_le max_capacity c)

above_map : (cs : List ℕ) → some (ltb max_capacity) (map (min (max_capacity + 1)) cs) ≡ some (ltb max_capacity) cs
unfolding some
above_map [] = refl
above_map (c ∷ cs) = ap₂ ◌||◌ (above-least c) (above_map cs)

six-above : (cs : List ℕ) → length cs ≤ max_overloads → some (ltb max_capacity) (six (map (min (max_capacity + 1)) cs)) ≡ some (ltb max_capacity) cs
six-above cs h =
    let l = map (min (max_capacity + 1)) cs in
    let n : length l ≤ max_overloads = rw length-map h in
    ap (λ x. some (ltb max_capacity) (pad max_overloads x)) (take_all max_overloads l n)
    ∙ some_append (ltb max_capacity) l (replicate (max_overloads - length l) 0)
    ∙ ap₂ ◌||◌ (above_map cs) (above-zeros (max_overloads - length l)) ∙ or-false (some (ltb max_capacity) cs)

least_at : (cs : List ℕ) → ((j : ℕ) → j < length cs → get_or cs j 0 ≤ max_capacity) → (i : ℕ) → get_or (map (min (max_capacity + 1)) cs) i 0 ≡ get_or cs i 0
least_at [] f i = refl
least_at (c ∷ cs) f zero = omega (arith, f 0 (omega arith))
least_at (c ∷ cs) f (suc i) = least_at cs (λ j h. f (suc j) (omega arith)) i

module _ (t : ℕ) (os : List Overload) (p : Pieces) (is : p ≡ gathered t os) where
  pub held-count : p.count ≡ length (pieces_of os)
  unfolding gathered
  held-count = ap (λ x. x.count) is

  pub held-size : length p.capacity ≡ max_overloads
  unfolding gathered
  held-size = ap (λ x. length x.capacity) is ∙ six-length (map (min (max_capacity + 1)) (capacities_of δ t os))

  module _ (few : length (pieces_of os) ≤ max_overloads) where
    pub held-pieces : pieces_in p ≡ pieces_of os
    unfolding gathered
    held-pieces =
        let ps = pieces_of os in
        let d = piece_at [] [] [] 0 in
        ap pieces_in is
        ∙ at_ext _ _ _ (length ps) 0 ps refl
        (λ j h. let z : 0 + j ≡ j = omega arith in rw (z, six-of (λ x. x.chain) ps d j few h, six-of (λ x. x.segment) ps d j few h, six-of (λ x. x.cost) ps d j few h))

    -- a capacity above its limit is held as one above it, and others as they are
    abbrev cs : List ℕ
    cs = capacities_of δ t os

    cs-few : length cs ≤ max_overloads
    cs-few = omega (arith, capacities_length t 0 os)

    pub held-above : some (ltb max_capacity) p.capacity ≡ some (ltb max_capacity) cs
    unfolding gathered some
    held-above = ap (λ x. some (ltb max_capacity) x.capacity) is ∙ six-above cs cs-few

    pub held-room : some (ltb max_capacity) cs ≡ false → (i : ℕ) → i < max_overloads → get_or p.capacity i 0 ≡ get_or cs i 0
    unfolding gathered
    held-room e i h =
        ap (λ x. get_or x.capacity i 0) is ∙ six-at (map (min (max_capacity + 1)) cs) i h
        ∙ least_at cs (λ j l. ltb-false max_capacity (get_or cs j 0) (some_at (ltb max_capacity) cs j 0 e l)) i

-- no active segment costs more than a chain can
module _ (b : Row) where
  piece-cheap : (n : ℕ) (l : List Active) → All (λ s. s.cost ≤ dearest) l → All (λ p. p.cost ≤ dearest) (map (piece n) l)
  piece-cheap n [] h = tt
  piece-cheap n (s ∷ l) h = (h.0, piece-cheap n l h.1)

  cheap : (n : ℕ) (l : List Row) → All GoodRow l → All (λ p. p.cost ≤ dearest) (pieces_from n (overloads b l))
  unfolding overloads pieces_from
  cheap n [] good = tt
  cheap n (a ∷ l) good = when_cases (λ os. All (λ p. p.cost ≤ dearest) (pieces_from n os)) (eqb a.overload 0)
      (λ e. cheap n l good.1)
      (λ e. all_append (λ p. p.cost ≤ dearest) (map (piece n) (actives_of a b)) (pieces_from (n + 1) (overloads b l))
      (piece-cheap n (actives_of a b) (all_map (λ s h. le_trans h (all-max a good.0 b)) (actives_of a b) (actives-each a b)))
      (cheap (n + 1) l good.1))

cheap-at : (ps : List Piece) → All (λ p. p.cost ≤ dearest) ps → (i : ℕ) → get_or (map (λ p. p.cost) ps) i 0 ≤ dearest
cheap-at [] h i = omega arith
cheap-at (p ∷ ps) h zero = h.0
cheap-at (p ∷ ps) h (suc i) = cheap-at ps h.1 i

cheap-six : (l : List ℕ) → ((i : ℕ) → get_or l i 0 ≤ dearest) → (i : ℕ) → get_or (six l) i 0 ≤ dearest
cheap-six l f i = ⊎_elim
    (λ h. rw (six-at l i h) (f i)) (λ h. rw (get_or-eq_default (six l) 0 {n = i} (omega (arith, six-length l))) (omega arith)) (lt_or_le i max_overloads)

pub held-few : (t : ℕ) (b : Row) (l : List Row) → All GoodRow l → (p : Pieces) → p ≡ gathered t (overloads b l) → length (pieces_of (overloads b l)) ≤ max_overloads → Few p
unfolding gathered
held-few t b l good p is few = record {
  few = omega (arith, ap (λ x. x.count) is);
  cheap = λ i. rw is (cheap-six (map (λ p. p.cost) (pieces_of (overloads b l))) (cheap-at (pieces_of (overloads b l)) (cheap b 0 l good)) i);
}
