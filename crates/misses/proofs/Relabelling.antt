-- The active segments of overload chains that pair off alike are the same in another order, once chains and segments bear other
-- numbers. Assumes nothing.
use Prim.Native.Nat.{ℕ, ◌+◌, ◌≤◌, ◌<◌}
use mathlib.Core.Path.{◌≡◌, refl, ap, ap₂, sym, subst, ◌∙◌}
use mathlib.Core.List.Permᴰ
use mathlib.Core.List.{List, [], ◌∷◌, ◌++◌, map, map-map, map-id, map-append, Permᴰ}
use native.Mathlib.Omega.{arith}
use native.Mathlib.Decide.{ℕ_discrete}
use lib.Dec.{eqb}
use borrow.Author.Tests.{eq-eqb, ne_eqb}
use Rattle.search.specs.Choice.{◌when◌else◌}
use Rattle.search.specs.Lists.{All, Paired}
use Rattle.search.proofs.Choice.{when_yes, when_no}
use Rattle.search.proofs.Lists.{all_map, all_append}
use Rattle.arrivals.specs.Arrivals.{δ, η}
use Rattle.segments.proofs.Order.{label_of, behind}
use Rattle.segments.proofs.Renaming.{rename, Renamed}
use Rattle.misses.specs.Overloads.{Overload, Piece, pieces_from, capacities_of}
use Rattle.misses.proofs.Together.{renamed}

-- an active segment and its capacity
pub record Part : Type 0 where
  pub piece : Piece
  pub room : ℕ

abbrev part : ℕ → ℕ → List ℕ → ℕ × ℕ → Part
part t n ds l = record { piece = record { chain = n; segment = l.0; cost = l.1 }; room = η ds t + 1 }

-- those of an overload chain, each as the number of its segment and its cost
abbrev labels_of : Overload → List (ℕ × ℕ)
labels_of o = map label_of o.actives

-- those of some overload chains, the chains numbered from n on
unfoldable pub parts_from : ℕ → ℕ → List Overload → List Part
parts_from t n [] = []
parts_from t n (o ∷ os) = map (part t n o.list) (labels_of o) ++ parts_from t (n + 1) os

module _ (t : ℕ) where
  pub parts-pieces : (n : ℕ) (os : List Overload) → map (λ p. p.piece) (parts_from t n os) ≡ pieces_from n os
  unfolding parts_from pieces_from
  parts-pieces n [] = refl
  parts-pieces n (o ∷ os) =
      map-append (λ p. p.piece) (map (part t n o.list) (labels_of o)) (parts_from t (n + 1) os)
      ∙ ap₂ ◌++◌ (map-map (λ p. p.piece) (part t n o.list) (labels_of o) ∙ map-map _ label_of o.actives) (parts-pieces (n + 1) os)

  pub parts-rooms : (n : ℕ) (os : List Overload) → map (λ p. p.room) (parts_from t n os) ≡ capacities_of δ t os
  unfolding parts_from capacities_of
  parts-rooms n [] = refl
  parts-rooms n (o ∷ os) =
      map-append (λ p. p.room) (map (part t n o.list) (labels_of o)) (parts_from t (n + 1) os)
      ∙ ap₂ ◌++◌ (map-map (λ p. p.room) (part t n o.list) (labels_of o) ∙ map-map _ label_of o.actives) (parts-rooms (n + 1) os)

  -- all of them bear a chain's number from n on
  of-chain : (m n : ℕ) (ds : List ℕ) (l : List (ℕ × ℕ)) → m ≤ n → All (λ (p : Part). m ≤ p.piece.chain) (map (part t n ds) l)
  of-chain m n ds [] h = tt
  of-chain m n ds (i ∷ l) h = (h, of-chain m n ds l h)

  from : (m n : ℕ) (os : List Overload) → m ≤ n → All (λ (p : Part). m ≤ p.piece.chain) (parts_from t n os)
  unfolding parts_from
  from m n [] h = tt
  from m n (o ∷ os) h = all_append (λ (p : Part). m ≤ p.piece.chain) (map (part t n o.list) (labels_of o)) (parts_from t (n + 1) os) (of-chain m n o.list (labels_of o) h) (from m (n + 1) os (omega arith))

map_same : {A B : Type 0} (f g : A → B) (l : List A) → All (λ a. f a ≡ g a) l → map f l ≡ map g l
map_same f g [] h = refl
map_same f g (a ∷ l) h = ap₂ ◌∷◌ h.0 (map_same f g l h.1)

abbrev pub relabel : (ℕ → ℕ) → (ℕ → ℕ → ℕ) → Part → Part
relabel chain name p = record { piece = renamed chain name p.piece; room = p.room }

-- the same in another order, once the chains and segments of l are renumbered; no two chains become one, and those below n stay
pub record Relabelled (n : ℕ) (l k : List Part) : Type 0 where
  pub chain : ℕ → ℕ
  pub name : ℕ → ℕ → ℕ
  pub apart : (x y : ℕ) → chain x ≡ chain y → x ≡ y
  pub stay : (x : ℕ) → x < n → chain x ≡ x
  pub own : (x j : ℕ) → x < n → name x j ≡ j
  pub order : Permᴰ (map (relabel chain name) l) k

none : (n : ℕ) (l : List Part) → Relabelled n l l
none n l = record { chain = λ x. x; name = λ x j. j; apart = λ x y e. e; stay = λ x h. refl; own = λ x j h. refl; order = rw (map-id l) (Permᴰ.refl l) }

both : {n : ℕ} {l k h : List Part} → Relabelled n l k → Relabelled n k h → Relabelled n l h
both {n} {l} {k} s t = record {
  chain = λ x. t.chain (s.chain x);
  name = λ x j. t.name (s.chain x) (s.name x j);
  apart = λ x y e. s.apart x y (t.apart _ _ e);
  stay = λ x h. ap t.chain (s.stay x h) ∙ t.stay x h;
  own = λ x j h. ap₂ t.name (s.stay x h) (s.own x j h) ∙ t.own x j h;
  order =
      Permᴰ.trans
      (subst (λ r. Permᴰ r (map (relabel t.chain t.name) k)) (map-map (relabel t.chain t.name) (relabel s.chain s.name) l)
      (Permᴰ.map (relabel t.chain t.name) s.order))
      t.order;
}

-- two overload chains that are alike: the same distances, and the same active segments once their segments are renumbered
pub record Same (o p : Overload) : Type 0 where
  pub list : o.list ≡ p.list
  pub actives : Renamed 0 (labels_of o) (labels_of p)

-- a chain bears another number, and its segments others
block : (chain : ℕ → ℕ) (name : ℕ → ℕ → ℕ) (f : ℕ → ℕ) (t n i : ℕ) (ds : List ℕ) → chain n ≡ i → ((j : ℕ) → name n j ≡ f j)
    → (l : List (ℕ × ℕ)) → map (relabel chain name) (map (part t n ds) l) ≡ map (part t i ds) (map (rename f) l)
block chain name f t n i ds e g [] = refl
block chain name f t n i ds e g (a ∷ l) =
    ap₂ ◌∷◌ (ap₂ (λ x j. record { piece = record { chain = x; segment = j; cost = a.1 }; room = η ds t + 1 }) e (g a.0)) (block chain name f t n i ds e g l)

module _ (t n : ℕ) where
  -- one chain more in front
  cons : {o p : Overload} (os ps : List Overload) → Same o p → Relabelled (n + 1) (parts_from t (n + 1) os) (parts_from t (n + 1) ps)
      → Relabelled n (parts_from t n (o ∷ os)) (parts_from t n (p ∷ ps))
  unfolding parts_from
  cons {o} {p} os ps a s = record {
    chain = s.chain;
    name = name;
    apart = s.apart;
    stay = λ x h. s.stay x (omega arith);
    own = λ x j h. when_no _ _ (ne_eqb x n (λ e. omega arith)) ∙ s.own x j (omega arith);
    order =
        rw (
          map-append (relabel s.chain name) (map (part t n o.list) (labels_of o)) (parts_from t (n + 1) os),
          block s.chain name a.actives.name t n n o.list (s.stay n (omega arith)) (λ j. when_yes _ _ (eq-eqb n n refl)) (labels_of o),
          map_same (relabel s.chain name) (relabel s.chain s.name) (parts_from t (n + 1) os) rest,
          a.list,
        )
        (Permᴰ.trans (Permᴰ.append_right _ (Permᴰ.map (part t n p.list) a.actives.order)) (Permᴰ.append_left (map (part t n p.list) (labels_of p)) s.order));
  }
    where
      name : ℕ → ℕ → ℕ
      name x j = a.actives.name j when eqb x n else s.name x j

      rest : All (λ (q : Part). relabel s.chain name q ≡ relabel s.chain s.name q) (parts_from t (n + 1) os)
      rest =
          all_map (λ q h. ap (λ j. record { piece = record { chain = s.chain q.piece.chain; segment = j; cost = q.piece.cost }; room = q.room }) (when_no _ _ (ne_eqb q.piece.chain n (λ e. omega arith))))
          (parts_from t (n + 1) os) (from t (n + 1) (n + 1) os (omega arith))

  -- two chains change places
  exchange : (o p : Overload) (os : List Overload) → Relabelled n (parts_from t n (o ∷ p ∷ os)) (parts_from t n (p ∷ o ∷ os))
  unfolding parts_from
  exchange o p os = record {
    chain = f;
    name = λ x j. j;
    apart = apart;
    stay = λ x h. f_else x (λ e. omega arith) (λ e. omega arith);
    own = λ x j h. refl;
    order = rw swapped (behind (map (part t (n + 1) o.list) (labels_of o)) (map (part t n p.list) (labels_of p)) (parts_from t (n + 1 + 1) os));
  }
    where
      f : ℕ → ℕ
      f x = n + 1 when eqb x n else n when eqb x (n + 1) else x

      f-first : f n ≡ n + 1
      f-first = when_yes _ _ (eq-eqb n n refl)

      f-second : f (n + 1) ≡ n
      f-second = when_no _ _ (ne_eqb (n + 1) n (λ e. omega arith)) ∙ when_yes _ _ (eq-eqb (n + 1) (n + 1) refl)

      f_else : (x : ℕ) → (x ≡ n → ⊥) → (x ≡ n + 1 → ⊥) → f x ≡ x
      f_else x a b = when_no _ _ (ne_eqb x n a) ∙ when_no _ _ (ne_eqb x (n + 1) b)

      -- twice is as before
      back : (x : ℕ) → f (f x) ≡ x
      back x = elim (ℕ_discrete x n) [
        | yes e ↦ ap (λ y. f (f y)) e ∙ ap f f-first ∙ f-second ∙ sym e
        | no a ↦ elim (ℕ_discrete x (n + 1)) [
          | yes e ↦ ap (λ y. f (f y)) e ∙ ap f f-second ∙ f-first ∙ sym e
          | no b ↦ ap f (f_else x a b) ∙ f_else x a b
        ]
      ]

      apart : (x y : ℕ) → f x ≡ f y → x ≡ y
      apart x y e = sym (back x) ∙ ap f e ∙ back y

      rest : All (λ (q : Part). relabel f (λ x j. j) q ≡ q) (parts_from t (n + 1 + 1) os)
      rest =
          all_map (λ q h. ap (λ x. record { piece = record { chain = x; segment = q.piece.segment; cost = q.piece.cost }; room = q.room }) (f_else q.piece.chain (λ e. omega arith) (λ e. omega arith)))
          (parts_from t (n + 1 + 1) os) (from t (n + 1 + 1) (n + 1 + 1) os (omega arith))

      swapped : map (relabel f (λ x j. j)) (parts_from t n (o ∷ p ∷ os)) ≡ map (part t (n + 1) o.list) (labels_of o) ++ (map (part t n p.list) (labels_of p) ++ parts_from t (n + 1 + 1) os)
      swapped =
          map-append (relabel f (λ x j. j)) (map (part t n o.list) (labels_of o)) _
          ∙ ap₂ ◌++◌
          (block f (λ x j. j) (λ j. j) t n (n + 1) o.list f-first (λ j. refl) (labels_of o) ∙ ap (map (part t (n + 1) o.list)) (map-id (labels_of o)))
          (map-append (relabel f (λ x j. j)) (map (part t (n + 1) p.list) (labels_of p)) (parts_from t (n + 1 + 1) os)
          ∙ ap₂ ◌++◌
          (block f (λ x j. j) (λ j. j) t (n + 1) n p.list f-second (λ j. refl) (labels_of p) ∙ ap (map (part t n p.list)) (map-id (labels_of p)))
          (map_same (relabel f (λ x j. j)) (λ q. q) (parts_from t (n + 1 + 1) os) rest ∙ map-id (parts_from t (n + 1 + 1) os)))

same-own : (o : Overload) → Same o o
same-own o = record { list = refl; actives = record { name = λ j. j; stay = λ x h. refl; order = rw (map-id (labels_of o)) (Permᴰ.refl (labels_of o)) } }

-- no order of the chains matters
perm_parts : (t n : ℕ) {os ps : List Overload} → Permᴰ os ps → Relabelled n (parts_from t n os) (parts_from t n ps)
perm_parts t n Permᴰ.nil = none n _
perm_parts t n (Permᴰ.cons {a = a} {l₁ = l} {l₂ = r} e q) =
    subst (λ b. Relabelled n (parts_from t n (a ∷ l)) (parts_from t n (b ∷ r))) e (cons t n l r (same-own a) (perm_parts t (n + 1) q))
perm_parts t n (Permᴰ.swap {a = a} {b = b} {l = l} e f) = rw (← e, ← f) (exchange t n a b l)
perm_parts t n (Permᴰ.trans q s) = both (perm_parts t n q) (perm_parts t n s)

pairs-parts : (t n : ℕ) (ps : List (Overload × Overload)) → All (λ p. Same p.0 p.1) ps
    → Relabelled n (parts_from t n (map (λ p. p.0) ps)) (parts_from t n (map (λ p. p.1) ps))
pairs-parts t n [] h = none n _
pairs-parts t n (p ∷ ps) h = cons t n _ _ h.0 (pairs-parts t (n + 1) ps h.1)

pub paired_parts : (t n : ℕ) {os ps : List Overload} → Paired Same os ps → Relabelled n (parts_from t n os) (parts_from t n ps)
paired_parts t n r = both (perm_parts t n r.firsts) (both (pairs-parts t n r.pairs r.related) (perm_parts t n r.seconds))
