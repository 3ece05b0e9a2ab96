-- The capacities of the definitions are document 01's: of each active segment by its own chain's arrivals. Assumes nothing.
use Prim.Native.Nat.{ℕ, zero, suc, ◌+◌, ◌-◌, ◌≤◌, ◌<◌}
use mathlib.Core.Path.{◌≡◌, refl, ap, sym, ◌∙◌}
use mathlib.Core.List.{List, [], ◌∷◌, ◌++◌, map}
use mathlib.Core.Logic.{⊎_elim}
use native.Mathlib.Omega.{arith}
use lib.ListN.{length, get_or, length-append, length-map, get_or-eq_default}
use borrow.Author.Tests.{lt-ltb, le-ltb}
use Rattle.search.specs.Lists.{All}
use Rattle.search.proofs.Choice.{when_yes, when_no, lt_or_le}
use Rattle.table.specs.declared.Row.{Row}
use Rattle.arrivals.specs.Arrivals.{δ, η, largest}
use Rattle.misses.specs.Overloads.{Overload, Piece, piece, pieces_from, capacities_of}
use Rattle.misses.specs.Misses.{room_of}
use Rattle.demands.specs.Misses.{piece_of, marked, pieces, capacity_of}

-- of the first of two lists, and of the second
get_d_first : {A : Type 0} (l r : List A) (i : ℕ) (d : A) → i < length l → get_or (l ++ r) i d ≡ get_or l i d
get_d_first [] r i d h = absurd (omega arith)
get_d_first (x ∷ l) r zero d h = refl
get_d_first (x ∷ l) r (suc i) d h = get_d_first l r i d (omega arith)

get_d_second : {A : Type 0} (l r : List A) (i : ℕ) (d : A) → length l ≤ i → get_or (l ++ r) i d ≡ get_or r (i - length l) d
get_d_second [] r i d h = ap (λ n. get_or r n d) (omega arith)
get_d_second (x ∷ l) r zero d h = absurd (omega arith)
get_d_second (x ∷ l) r (suc i) d h = get_d_second l r i d (omega arith) ∙ ap (λ n. get_or r n d) (omega arith)

-- in a list that is the same everywhere
get_d_map : {A B : Type 0} (f : A → B) (l : List A) (i : ℕ) (d : B) → i < length l → (a : A) × (get_or (map f l) i d ≡ f a)
get_d_map f [] i d h = absurd (omega arith)
get_d_map f (a ∷ l) zero d h = (a, refl)
get_d_map f (a ∷ l) (suc i) d h = get_d_map f l i d (omega arith)

-- an active segment, out of those of the overload chains os, before which n others come: it is of the chain j of os, and its capacity in t
-- goes by that chain's arrivals
record Capacity (t n : ℕ) (os : List Overload) (i : ℕ) : Type 0 where
  j : ℕ
  chain : (piece_of (pieces_from n os) i).chain ≡ n + j
  room : get_or (capacities_of δ t os) i 0 ≡ η (get_or (map (λ o. o.list) os) j []) t + 1

module _ (t n : ℕ) (o : Overload) (os : List Overload) (i : ℕ) where
  abbrev own : List Piece
  own = map (piece n) o.actives

  abbrev rooms : List ℕ
  rooms = map (λ x. η o.list t + 1) o.actives

  of_first : i < length o.actives → Capacity t n (o ∷ os) i
  unfolding pieces_from capacities_of
  of_first l =
      let p = get_d_map (piece n) o.actives i (record { chain = 0; segment = 0; cost = 0 }) l in
      record {
        j = 0;
        chain = ap (λ (x : Piece). x.chain) (get_d_first own (pieces_from (n + 1) os) i _ (omega (arith, l, long-own)) ∙ p.1) ∙ omega arith;
        room = get_d_first rooms (capacities_of δ t os) i 0 (omega (arith, l, long-rooms)) ∙ (get_d_map (λ x. η o.list t + 1) o.actives i 0 l).1;
      }
    where
      long-own : length own ≡ length o.actives
      long-own = length-map o.actives (piece n)

      long-rooms : length rooms ≡ length o.actives
      long-rooms = length-map o.actives (λ x. η o.list t + 1)

  of-later : length o.actives ≤ i → Capacity t (n + 1) os (i - length o.actives) → Capacity t n (o ∷ os) i
  unfolding pieces_from capacities_of
  of-later l r =
      let a = length-map o.actives (piece n) in
      let c = length-map o.actives (λ x. η o.list t + 1) in
      record {
        j = suc r.j;
        chain =
            ap (λ (x : Piece). x.chain) (get_d_second own (pieces_from (n + 1) os) i _ (omega (arith, l, a)))
            ∙ ap (λ x. (piece_of (pieces_from (n + 1) os) (i - x)).chain) a ∙ r.chain ∙ omega arith;
        room = get_d_second rooms (capacities_of δ t os) i 0 (omega (arith, l, c)) ∙ ap (λ x. get_or (capacities_of δ t os) (i - x) 0) c ∙ r.room;
      }

capacity-at : (t n : ℕ) (os : List Overload) (i : ℕ) → i < length (pieces_from n os) → Capacity t n os i
unfolding pieces_from
capacity-at t n [] i h = absurd (omega arith)
capacity-at t n (o ∷ os) i h = ⊎_elim
    (of_first t n o os i)
    (λ l.
    let m = length-append (map (piece n) o.actives) (pieces_from (n + 1) os) in
    of-later t n o os i l (capacity-at t (n + 1) os (i - length o.actives) (omega (arith, h, l, m, length-map o.actives (piece n)))))
    (lt_or_le i (length o.actives))

capacities_long : (t n : ℕ) (os : List Overload) → length (capacities_of δ t os) ≡ length (pieces_from n os)
unfolding pieces_from capacities_of
capacities_long t n [] = refl
capacities_long t n (o ∷ os) =
    omega (
      arith,
      length-append (map (λ x. η o.list t + 1) o.actives) (capacities_of δ t os),
      length-append (map (piece n) o.actives) (pieces_from (n + 1) os),
      length-map o.actives (λ x. η o.list t + 1),
      length-map o.actives (piece n),
      capacities_long t (n + 1) os,
    )

module _ (b : Row) (l : List Row) (k latency : ℕ) where
  long : length (room_of δ b (marked b l) k latency) ≡ length (pieces b l)
  unfolding room_of
  long = capacities_long (largest b k + latency) 0 (marked b l)

  pub room_at : (i : ℕ) → get_or (room_of δ b (marked b l) k latency) i 0 ≡ capacity_of b l k latency i
  unfolding room_of capacity_of
  room_at i = ⊎_elim
      (λ h.
      let c = capacity-at (largest b k + latency) 0 (marked b l) i h in
      let j : (piece_of (pieces b l) i).chain ≡ c.j = c.chain ∙ omega arith in
      c.room ∙ ap (λ x. η (get_or (map (λ o. o.list) (marked b l)) x []) (largest b k + latency) + 1) (sym j) ∙ sym (when_yes _ _ (lt-ltb _ _ h)))
      (λ h. get_or-eq_default (room_of δ b (marked b l) k latency) 0 {n = i} (omega (arith, long, h)) ∙ sym (when_no _ _ (le-ltb _ _ h)))
      (lt_or_le i (length (pieces b l)))

  -- no capacity is above a limit
  pub capped_all : (limit : ℕ) → ((i : ℕ) → i < length (pieces b l) → capacity_of b l k latency i ≤ limit) → All (λ c. c ≤ limit) (room_of δ b (marked b l) k latency)
  capped_all limit h = by (room_of δ b (marked b l) k latency) (λ i m. omega (arith, room_at i, h i (omega (arith, long, m))))
    where
      by : (cs : List ℕ) → ((i : ℕ) → i < length cs → get_or cs i 0 ≤ limit) → All (λ c. c ≤ limit) cs
      by [] h = tt
      by (c ∷ cs) h = (h 0 (omega arith), by cs (λ i m. h (suc i) (omega arith)))

  pub all_capped : (limit : ℕ) → All (λ c. c ≤ limit) (room_of δ b (marked b l) k latency) → (i : ℕ) → i < length (pieces b l) → capacity_of b l k latency i ≤ limit
  all_capped limit a i h = omega (arith, room_at i, by (room_of δ b (marked b l) k latency) a i (omega (arith, long, h)))
    where
      by : (cs : List ℕ) → All (λ c. c ≤ limit) cs → (i : ℕ) → i < length cs → get_or cs i 0 ≤ limit
      by [] a i h = absurd (omega arith)
      by (c ∷ cs) a zero h = a.0
      by (c ∷ cs) a (suc i) h = by cs a.1 i (omega arith)
