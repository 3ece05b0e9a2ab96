-- The active segments of the overload chains, gathered one by one and chain by chain. Assumes nothing.
use Prim.Native.Nat.{ℕ, suc, ◌+◌, ◌*◌, ◌≤◌, ◌<◌, min}
use mathlib.Core.Path.{◌≡◌, refl, ap, ap₂, sym, ◌∙◌}
use mathlib.Core.List.{List, [], ◌∷◌, ◌++◌, append_assoc, append-nil, map, map-append}
use mathlib.Core.Bool.{Bool, true, false}
use native.Mathlib.Omega.{arith}
use native.Mathlib.Numerals.{add-one}
use lib.Dec.{eqb}
use borrow.Author.Tests.{eq-eqb, ne_eqb}
use lib.ListN.{length, get_or, take, set, length-append, length-map}
use lib.Seq.{take-suc, take_all, get_or-take, take-take, length-take-le, set_out}
use Rattle.search.specs.Choice.{◌when◌else◌}
use Rattle.search.proofs.Choice.{when_yes, when_no}
use Rattle.table.specs.Limits.{max_tasks, max_overloads, max_capacity}
use Rattle.table.specs.Record.{blank}
use Rattle.table.specs.Find.{row_of, rows}
use Rattle.table.specs.Code.Good.{GoodTable}
use Rattle.table.specs.declared.Row.{Row}
use Rattle.table.specs.declared.Table.{Table}
use Rattle.arrivals.specs.Arrivals.{δ, η}
use Rattle.table.specs.Record.{distances}
use Rattle.segments.specs.Actives.{Active, nothing, actives_of}
use Rattle.segments.specs.Code.Held.{arrays_of}
use Rattle.segments.specs.Tasks.{floor_of, tail_of}
use Rattle.segments.specs.declared.Actives.{Actives}
use Rattle.segments.proofs.Standing.{array_at}
use Rattle.segments.proofs.Bounds.{actives-few}
use Rattle.misses.specs.Overloads.{Overload, overload, overloads, Piece, piece, pieces_from, pieces_of, capacities_of}
use Rattle.misses.specs.Code.Held.{six, held_as, gathered}
use Rattle.misses.specs.declared.Pieces.{Pieces}
use Rattle.misses.proofs.Sixes.{six-length, six-put}

-- one active segment more, of the chain that comes next
abbrev pub plus : Pieces → ℕ → ℕ → ℕ → Pieces
plus p segment cost capacity =
    record {
      chains = p.chains;
      count = p.count + 1;
      chain = set p.chain p.count p.chains;
      segment = set p.segment p.count segment;
      cost = set p.cost p.count cost;
      capacity = set p.capacity p.count capacity;
    }

six-map : {A : Type 0} (f : A → ℕ) (l : List A) (a : A) (n : ℕ) → n ≡ length l → six (map f (l ++ (a ∷ []))) ≡ set (six (map f l)) n (f a)
six-map f l a n e =
    ap six (map-append f l (a ∷ [])) ∙ six-put (map f l) (f a) ∙ ap (λ k. set (six (map f l)) k (f a)) (length-map l f ∙ sym e)

held-put : (ps : List Piece) (cs : List ℕ) (p : Piece) (c : ℕ) → length cs ≡ length ps
    → held_as p.chain (ps ++ (p ∷ [])) (cs ++ (c ∷ [])) ≡ plus (held_as p.chain ps cs) p.segment p.cost (min (max_capacity + 1) c)
held-put ps cs p c e =
    rw (
      six-map (λ x. x.chain) ps p (length ps) refl,
      six-map (λ x. x.segment) ps p (length ps) refl,
      six-map (λ x. x.cost) ps p (length ps) refl,
      six-map (min (max_capacity + 1)) cs c (length ps) (sym e),
      length-append,
    )

-- past six only the count grows
abbrev pub longer : Pieces → Pieces
longer p = record { chains = p.chains; count = p.count + 1; chain = p.chain; segment = p.segment; cost = p.cost; capacity = p.capacity }

plus-past : (p : Pieces) (n : ℕ) (ps : List Piece) (cs : List ℕ) → p ≡ held_as n ps cs → max_overloads ≤ p.count → (segment cost capacity : ℕ)
    → plus p segment cost capacity ≡ longer p
plus-past p n ps cs e h segment cost capacity =
    let out : (l m : List ℕ) (x : ℕ) → l ≡ six m → set l p.count x ≡ l = λ l m x f. set_out l p.count x (omega (arith, ap length f, six-length m)) in
    rw (
      out p.chain (map (λ x. x.chain) ps) p.chains (ap (λ x. x.chain) e),
      out p.segment (map (λ x. x.segment) ps) segment (ap (λ x. x.segment) e),
      out p.cost (map (λ x. x.cost) ps) cost (ap (λ x. x.cost) e),
      out p.capacity (map (min (max_capacity + 1)) cs) capacity (ap (λ x. x.capacity) e),
    )

-- a chain's active segments one by one: i of those found are held, after what was held before, with the capacity `most`
abbrev pub taken : List Active → ℕ → ℕ → List Piece
taken found n i = map (piece n) (take i found)

abbrev pub Adds : Actives → ℕ → Pieces → Pieces → ℕ → Type 0
Adds found most before p i =
    (n : ℕ) (ps : List Piece) (cs : List ℕ) (l : List Active) (c : ℕ) → length cs ≡ length ps → before ≡ held_as n ps cs
    → found ≡ arrays_of l → most ≡ min (max_capacity + 1) c → p ≡ held_as n (ps ++ taken l n i) (cs ++ map (λ s. c) (take i l))

pub adds_none : (found : Actives) (most : ℕ) (before : Pieces) → Adds found most before before 0
adds_none found most before n ps cs l c k h e f = rw (append-nil ps, append-nil cs) h

map-taken : {A B : Type 0} (f : A → B) (l : List A) (i : ℕ) (d : A) → i < length l
    → map f (take (i + 1) l) ≡ map f (take i l) ++ (f (get_or l i d) ∷ [])
map-taken f l i d h = ap (λ k. map f (take k l)) (add-one i) ∙ ap (map f) (take-suc l i d h) ∙ map-append f (take i l) (get_or l i d ∷ [])

length_both : {A B C : Type 0} (f : A → B) (g : A → C) (l : List A) (bs : List B) (cs : List C) → length cs ≡ length bs
    → length (cs ++ map g l) ≡ length (bs ++ map f l)
length_both f g l bs cs e = simp (length-append, length-map) (omega arith)

pub adds_on : (found : Actives) (most : ℕ) (before p : Pieces) (i : ℕ) → Adds found most before p i → i < found.count
    → Adds found most before (plus p (get_or found.segment i 0) (get_or found.cost i 0) most) (i + 1)
adds_on found most before p i a h n ps cs l c k e f g =
    let lt : i < length l = omega (arith, ap (λ x. x.count) f) in
    let s = get_or l i nothing in
    let j : get_or found.segment i 0 ≡ s.segment = ap (λ x. get_or x.segment i 0) f ∙ array_at (λ x. x.segment) l i lt in
    let d : get_or found.cost i 0 ≡ s.cost = ap (λ x. get_or x.cost i 0) f ∙ array_at (λ x. x.cost) l i lt in
    rw (a n ps cs l c k e f g, j, d, g, map-taken (piece n) l i nothing lt, map-taken (λ x. c) l i nothing lt)
    (sym (held-put (ps ++ taken l n i) (cs ++ map (λ x. c) (take i l)) (piece n s) c (length_both _ _ (take i l) ps cs k))
    ∙ ap₂ (held_as n) (append_assoc ps (taken l n i) _) (append_assoc cs (map (λ x. c) (take i l)) _))

pub adds-past : (found : Actives) (most : ℕ) (before p : Pieces) (i : ℕ) → Adds found most before p i → i < found.count → max_overloads ≤ p.count
    → Adds found most before (longer p) (i + 1)
adds-past found most before p i a h past n ps cs l c k e f g =
    sym (plus-past p n (ps ++ taken l n i) (cs ++ map (λ s. c) (take i l)) (a n ps cs l c k e f g) past (get_or found.segment i 0) (get_or found.cost i 0) most)
    ∙ adds_on found most before p i a h n ps cs l c k e f g

-- one chain more
pieces_more : (n : ℕ) (os : List Overload) (o : Overload) → pieces_from n (os ++ (o ∷ [])) ≡ pieces_from n os ++ map (piece (n + length os)) o.actives
unfolding pieces_from
pieces_more n [] o = let e : n + 0 ≡ n = omega arith in rw e (append-nil _)
pieces_more n (x ∷ os) o =
    let e : n + suc (length os) ≡ n + 1 + length os = omega arith in
    rw e (ap (λ l. map (piece n) x.actives ++ l) (pieces_more (n + 1) os o) ∙ sym (append_assoc (map (piece n) x.actives) (pieces_from (n + 1) os) _))

capacities_more : (t : ℕ) (os : List Overload) (o : Overload) → capacities_of δ t (os ++ (o ∷ [])) ≡ capacities_of δ t os ++ map (λ i. η o.list t + 1) o.actives
unfolding capacities_of
capacities_more t [] o = append-nil _
capacities_more t (x ∷ os) o =
    ap (λ l. map (λ i. η x.list t + 1) x.actives ++ l) (capacities_more t os o)
    ∙ sym (append_assoc (map (λ i. η x.list t + 1) x.actives) (capacities_of δ t os) _)

-- each active segment has a capacity
pub capacities_length : (t n : ℕ) (os : List Overload) → length (capacities_of δ t os) ≡ length (pieces_from n os)
unfolding capacities_of pieces_from
capacities_length t n [] = refl
capacities_length t n (o ∷ os) = simp (length-append, length-map) (omega (arith, capacities_length t (n + 1) os))

-- the chain is counted
abbrev pub next : Pieces → Pieces
next p = record { chains = p.chains + 1; count = p.count; chain = p.chain; segment = p.segment; cost = p.cost; capacity = p.capacity }

pub adds-chain : (a b : Row) (t : ℕ) (os : List Overload) (found : Actives) (most : ℕ) (before p : Pieces) (i : ℕ) → before ≡ gathered t os
    → found ≡ arrays_of (actives_of a b) → most ≡ min (max_capacity + 1) (η (distances a) t + 1) → Adds found most before p i → found.count ≤ i
    → next p ≡ gathered t (os ++ (overload a b ∷ []))
unfolding gathered
adds-chain a b t os found most before p i e f g adds h =
    let l = actives_of a b in
    let n = length os in
    let all : take i l ≡ l = take_all i l (omega (arith, ap (λ x. x.count) f)) in
    let z : 0 + n ≡ n = omega arith in
    let ps : pieces_of os ++ taken l n i ≡ pieces_of (os ++ (overload a b ∷ [])) =
    ap (λ r. pieces_of os ++ map (piece n) r) all ∙ ap (λ k. pieces_of os ++ map (piece k) l) (sym z) ∙ sym (pieces_more 0 os (overload a b)) in
    let cs : capacities_of δ t os ++ map (λ s. η (distances a) t + 1) (take i l) ≡ capacities_of δ t (os ++ (overload a b ∷ [])) =
    ap (λ r. capacities_of δ t os ++ map (λ s. η (distances a) t + 1) r) all ∙ sym (capacities_more t os (overload a b)) in
    ap next (adds n (pieces_of os) (capacities_of δ t os) l _ (capacities_length t 0 os) e f g) ∙ ap₂ (λ x y. next (held_as n x y)) ps cs
    ∙ ap (λ k. held_as k (pieces_of (os ++ (overload a b ∷ []))) (capacities_of δ t (os ++ (overload a b ∷ [])))) (sym (length-append os (overload a b ∷ [])))

-- the overload chains of some rows and more
pub overloads_append : (b : Row) (l r : List Row) → overloads b (l ++ r) ≡ overloads b l ++ overloads b r
unfolding overloads ◌when◌else◌
overloads_append b [] r = refl
overloads_append b (a ∷ l) r = go (eqb a.overload 0) (overloads_append b l r)
  where
    go : (t : Bool) → overloads b (l ++ r) ≡ overloads b l ++ overloads b r
        → (overloads b (l ++ r) when t else overload a b ∷ overloads b (l ++ r)) ≡ (overloads b l when t else overload a b ∷ overloads b l) ++ overloads b r
    go true e = e
    go false e = ap (λ x. overload a b ∷ x) e

-- the rows of a table up to j are gone through
pub record Gone (table : Table) (b : Row) (t : ℕ) (p : Pieces) (j : ℕ) : Type 0 where
  pub is : p ≡ gathered t (overloads b (take j (rows table)))
  pub inside : j ≤ table.count
  pub chains : p.chains ≤ j
  pub few : p.count ≤ max_tasks * j

pub gone-none : (table : Table) (b : Row) (t : ℕ) (p : Pieces) → p ≡ held_as 0 [] [] → Gone table b t p 0
unfolding gathered overloads pieces_from capacities_of
gone-none table b t p e =
    record { is = e; inside = omega arith; chains = omega (arith, ap (λ x. x.chains) e); few = omega (arith, ap (λ x. x.count) e) }

module _ (table : Table) (b : Row) (t : ℕ) (good : GoodTable table) (p : Pieces) (j : ℕ) (gone : Gone table b t p j) (more : j < table.count) where
  a : Row
  a = row_of table j

  row-at : take (j + 1) (rows table) ≡ take j (rows table) ++ (a ∷ [])
  unfolding a
  row-at =
      let n : table.count ≤ length table.row = omega (arith, good.few, good.size) in
      ap (λ k. take k (rows table)) (add-one j)
      ∙ take-suc (rows table) j blank (omega (arith, length-take-le table.count table.row n))
      ∙ ap (λ r. take j (rows table) ++ (r ∷ [])) (get_or-take table.count table.row j blank more)

  before : List Overload
  before = overloads b (take j (rows table))

  one_more : overloads b (take (j + 1) (rows table)) ≡ before ++ overloads b (a ∷ [])
  unfolding before
  one_more = ap (overloads b) row-at ∙ overloads_append b (take j (rows table)) (a ∷ [])

  -- a chain without overload mark
  pub gone-typical : (row_of table j).overload ≡ 0 → Gone table b t p (j + 1)
  unfolding a before overloads
  gone-typical e = record {
    is = gone.is ∙ ap (gathered t) (sym (one_more ∙ ap (λ l. before ++ l) (when_yes _ _ (eq-eqb _ _ e)) ∙ append-nil before));
    inside = omega arith;
    chains = omega (arith, gone.chains);
    few = omega (arith, gone.few);
  }

  -- a chain with overload mark
  pub gone-overload : ((row_of table j).overload ≡ 0 → ⊥) → (r : Pieces)
      → ((os : List Overload) → p ≡ gathered t os → r ≡ gathered t (os ++ (overload (row_of table j) b ∷ []))) → Gone table b t r (j + 1)
  unfolding a before overloads gathered
  gone-overload e r f =
      let o : before ++ (overload a b ∷ []) ≡ overloads b (take (j + 1) (rows table)) = sym (one_more ∙ ap (λ l. before ++ l) (when_no _ _ (ne_eqb _ _ e))) in
      let is : r ≡ gathered t (before ++ (overload a b ∷ [])) = f before gone.is in
      record {
        is = is ∙ ap (gathered t) o;
        inside = omega arith;
        chains = omega (arith, ap (λ x. x.chains) is, length-append before (overload a b ∷ []), ap (λ x. x.chains) gone.is, gone.chains);
        few = omega (arith, ap (λ x. x.count) is, ap length (pieces_more 0 before (overload a b)), length-append (pieces_of before) (map (piece (0 + length before)) (actives_of a b)), length-map (actives_of a b) (piece (0 + length before)), actives-few a (floor_of b) (tail_of b) (good.row j more), ap (λ x. x.count) gone.is, gone.few);
      }

pub gone-all : (table : Table) (b : Row) (t : ℕ) (p : Pieces) (j : ℕ) → Gone table b t p j → table.count ≤ j → p ≡ gathered t (overloads b (rows table))
gone-all table b t p j gone h =
    let e : j ≡ table.count = omega (arith, gone.inside) in
    gone.is ∙ ap (λ l. gathered t (overloads b l)) (ap (λ k. take k (rows table)) e ∙ take-take table.count table.count table.row (omega arith))
