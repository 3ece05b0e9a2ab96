-- Overload chains that pair off alike have the same bad combinations, once their active segments are renumbered: as many of them, the
-- same capacities, and so the same greatest packing. Assumes nothing.
use Prim.Native.Nat.{ℕ, ◌/◌, ◌%◌, ◌^◌, ◌≤◌, ◌<◌}
use mathlib.Core.Path.{◌≡◌, refl, ap, ap₂, sym, ◌∙◌}
use mathlib.Core.Bool.{Bool, true, ◌&&◌}
use mathlib.Core.List.Permᴰ
use mathlib.Core.List.{List, [], ◌∷◌, map, map-map, Permᴰ}
use mathlib.Core.Logic.{inl, inr, ⊎_elim}
use native.Mathlib.Omega.{arith}
use native.Mathlib.Nat.{div-eq_of_lt, le_of_eq}
use lib.Dec.{eqb, ltb}
use lib.ListN.{length, get_or, length-map}
use lib.Pow.{pow_mono}
use borrow.Author.Tests.{ltb-true, lt-ltb}
use Rattle.search.specs.Choice.{◌when◌else◌}
use Rattle.search.specs.Lists.{Paired}
use Rattle.search.proofs.Choice.{lt_or_le}
use Rattle.search.proofs.Lists.{perm_sum}
use Rattle.table.specs.Limits.{max_overloads}
use Rattle.arrivals.specs.Arrivals.{δ}
use Rattle.segments.proofs.Lists.{sum-map, sum_ones}
use Rattle.packing.specs.Packing.{usable, combinations}
use Rattle.packing.specs.Most.{most_uses}
use Rattle.packing.proofs.Linear.{usable-some}
use Rattle.packing.proofs.Laws.{usable-bad, bad-usable, Renumbered, Renumbers, renumbered_same}
use Rattle.misses.specs.Overloads.{Overload, Piece, pieces_of, capacities_of}
use Rattle.misses.specs.Sets.{members, together, allowed, set_cost}
use Rattle.misses.specs.Bad.{bad}
use Rattle.misses.proofs.Bools.{and_left, and_right}
use Rattle.misses.proofs.Turning.{picked, picked-map, Turned, turned}
use Rattle.misses.proofs.Together.{perm_together, together-renamed, renamed, agree-renamed}
use Rattle.misses.proofs.Relabelling.{Part, parts_from, parts-pieces, parts-rooms, relabel, Relabelled, Same, paired_parts}

members-picked : (ps : List Piece) (m : ℕ) → members ps m ≡ picked ps m
unfolding members picked
members-picked [] m = refl
members-picked (p ∷ ps) m = ap (λ l. p ∷ l when eqb (m % 2) 1 else l) (members-picked ps (m / 2))

perm_length : {A : Type 0} {l r : List A} → Permᴰ l r → length l ≡ length r
perm_length {l = l} {r = r} p = sym (sum_ones l) ∙ perm_sum (λ a. 1) p ∙ sum_ones r

-- a mask of up to 6 places
below_all : (n m : ℕ) → n ≤ max_overloads → m < 2 ^ n → m < combinations
below_all n m h l = let k : 2 ^ n ≤ 2 ^ max_overloads = pow_mono h in omega arith

module _ {os ps : List Overload} (r : Paired Same os ps) (t : ℕ) where
  label : Relabelled 0 (parts_from t 0 os) (parts_from t 0 ps)
  label = paired_parts t 0 r

  -- the new names of a part, and of an active segment
  abbrev part-names : Part → Part
  part-names = relabel label.chain label.name

  abbrev names : Piece → Piece
  names = renamed label.chain label.name

  -- the parts before and after, under the new names
  abbrev before : List Part
  before = map part-names (parts_from t 0 os)

  abbrev after : List Part
  after = parts_from t 0 ps

  -- a set of the ones is turned into a set of the others
  carries : Turned (λ p. p.room) before after
  carries = turned (λ p. p.room) label.order

  before-length : length before ≡ length (pieces_of os)
  before-length =
      length-map (parts_from t 0 os) part-names ∙ sym (length-map (parts_from t 0 os) (λ p. p.piece)) ∙ ap length (parts-pieces t 0 os)

  after-length : length after ≡ length (pieces_of ps)
  after-length = sym (length-map after (λ p. p.piece)) ∙ ap length (parts-pieces t 0 ps)

  -- as many active segments
  pub same_count : length (pieces_of os) ≡ length (pieces_of ps)
  same_count = sym before-length ∙ perm_length label.order ∙ after-length

  rooms-before : map (λ p. p.room) before ≡ capacities_of δ t os
  rooms-before = map-map (λ p. p.room) part-names (parts_from t 0 os) ∙ parts-rooms t 0 os

  -- with the same capacities
  pub same-rooms : Permᴰ (capacities_of δ t os) (capacities_of δ t ps)
  same-rooms = rw (← rooms-before, ← parts-rooms t 0 ps) (Permᴰ.map (λ p. p.room) label.order)

  -- a set that is carried over holds the same active segments under other names
  held : (os : List Overload) (m : ℕ) → members (pieces_of os) m ≡ map (λ p. p.piece) (picked (parts_from t 0 os) m)
  held os m = members-picked (pieces_of os) m ∙ ap (λ l. picked l m) (sym (parts-pieces t 0 os)) ∙ picked-map (λ p. p.piece) (parts_from t 0 os) m

  renamed-members : (m : ℕ) → map (λ p. p.piece) (picked before m) ≡ map names (members (pieces_of os) m)
  renamed-members m =
      let l = parts_from t 0 os in
      ap (map (λ p. p.piece)) (picked-map part-names l m)
      ∙ map-map (λ p. p.piece) part-names (picked l m)
      ∙ sym (map-map names (λ p. p.piece) (picked l m))
      ∙ ap (map names) (sym (held os m))

  carried : (m : ℕ) → Permᴰ (map names (members (pieces_of os) m)) (members (pieces_of ps) (carries.turn m))
  carried m = rw (← renamed-members m, held ps (carries.turn m)) (Permᴰ.map (λ p. p.piece) (carries.order m))

  carried-cost : (m : ℕ) → set_cost (members (pieces_of ps) (carries.turn m)) ≡ set_cost (members (pieces_of os) m)
  carried-cost m = sym (perm_sum (λ p. p.cost) (carried m)) ∙ sum-map names (λ p. p.cost) (members (pieces_of os) m)

  carried-below : (m : ℕ) → allowed (pieces_of os) m ≡ true → carries.turn m < 2 ^ length (pieces_of ps)
  unfolding allowed
  carried-below m a =
      let h : m < 2 ^ length (pieces_of os) = ltb-true _ _ (and_left (ltb m (2 ^ length (pieces_of os))) _ a) in
      rw (← after-length) (carries.inside m (rw before-length h))

  carried-allowed : (m : ℕ) → allowed (pieces_of os) m ≡ true → allowed (pieces_of ps) (carries.turn m) ≡ true
  unfolding allowed
  carried-allowed m a =
      let w : together (members (pieces_of os) m) ≡ true = and_right (ltb m (2 ^ length (pieces_of os))) _ a in
      ap₂ ◌&&◌ (lt-ltb _ _ (carried-below m a))
      (sym (perm_together (carried m)) ∙ together-renamed names (agree-renamed label.chain label.name label.apart) (members (pieces_of os) m) w)

  module _ (over : ℕ → Bool) (few : length (pieces_of ps) ≤ max_overloads) where
    carried-bad : (m : ℕ) → bad over (pieces_of os) m ≡ true → bad over (pieces_of ps) (carries.turn m) ≡ true
    unfolding bad
    carried-bad m e =
        ap₂ ◌&&◌ (carried-allowed m (and_left (allowed (pieces_of os) m) _ e)) (ap over (carried-cost m) ∙ and_right (allowed (pieces_of os) m) _ e)

    bad-below : (m : ℕ) → usable (bad over (pieces_of os)) m ≡ true → carries.turn m < 2 ^ length (pieces_of ps)
    unfolding bad
    bad-below m u = carried-below m (and_left (allowed (pieces_of os) m) _ (usable-bad (bad over (pieces_of os)) m u))

    places : (i : ℕ) → i < max_overloads → Renumbered (bad over (pieces_of os)) (λ j. get_or (capacities_of δ t os) j 0) (λ j. get_or (capacities_of δ t ps) j 0) carries.turn i
    places i h = ⊎_elim
        (λ l. inl (
          carries.place i,
          omega (arith, carries.near i l, before-length, same_count),
          le_of_eq (ap (λ l. get_or l (carries.place i) 0) (sym rooms-before) ∙ carries.rooms i l ∙ ap (λ l. get_or l i 0) (parts-rooms t 0 ps)),
          λ m k u. le_of_eq (carries.bits i m l),
        ))
        (λ l. inr (λ m k u.
        let p : 2 ^ length (pieces_of ps) ≤ 2 ^ i = pow_mono (omega (arith, after-length)) in
        ap (λ n. n % 2) (div-eq_of_lt (omega (arith, bad-below m u)))))
        (lt_or_le i (length after))

    renumbers : Renumbers (bad over (pieces_of os)) (bad over (pieces_of ps)) (λ i. get_or (capacities_of δ t os) i 0) (λ i. get_or (capacities_of δ t ps) i 0)
    renumbers = record {
      turn = carries.turn;
      inside = λ m l u. below_all (length (pieces_of ps)) (carries.turn m) few (bad-below m u);
      bads = λ m l u.
          bad-usable (bad over (pieces_of ps)) (carries.turn m) (carries.some m (usable-some (bad over (pieces_of os)) m u)) (carried-bad m (usable-bad (bad over (pieces_of os)) m u));
      segments = places;
    }

-- paired off there and back: the same greatest packing
pub same-most : {os ps : List Overload} → Paired Same os ps → Paired Same ps os → (t : ℕ) (over : ℕ → Bool) → length (pieces_of os) ≤ max_overloads
    → most_uses (bad over (pieces_of os)) (λ i. get_or (capacities_of δ t os) i 0) ≡ most_uses (bad over (pieces_of ps)) (λ i. get_or (capacities_of δ t ps) i 0)
same-most r q t over few = renumbered_same (renumbers r t over (omega (arith, same_count r t))) (renumbers q t over few)
