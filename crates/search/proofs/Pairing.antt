-- Lists paired off one to one stay so: those that pass a test, what the elements give, one more, the other way round; and a list beside
-- itself, in any order or with one element replaced. Assumes nothing.
use Prim.Native.Nat.{ℕ, zero, suc}
use mathlib.Core.Path.{◌≡◌, refl, sym, subst, ◌∙◌}
use mathlib.Core.List.Permᴰ
use mathlib.Core.List.{List, [], ◌∷◌, map, map-map, map-id, Permᴰ}
use mathlib.Core.Bool.{Bool}
use native.Mathlib.Omega.{arith}
use lib.ListN.{length, get_or, set}
use Rattle.search.specs.Lists.{sum_of, All, Paired, keep}
use Rattle.search.proofs.Keeping.{perm_keep, all_keep, keep-map}
use Rattle.search.proofs.Lists.{all_map, perm_sum, perm_all, paired_perm}

pub all-each : {A : Type 0} (P : A → Type 0) → ((a : A) → P a) → (l : List A) → All P l
all-each P f [] = tt
all-each P f (a ∷ l) = (f a, all-each P f l)

module _ {A B : Type 0} {R : A → B → Type 0} {xs : List A} {ys : List B} (r : Paired R xs ys) where
  -- those that pass, where both of a pair pass or none
  pub paired_keep : (p : A → Bool) (q : B → Bool) → ((a : A) (b : B) → R a b → p a ≡ q b) → Paired R (keep p xs) (keep q ys)
  paired_keep p q same =
      let ps = r.pairs in
      let test : A × B → Bool = λ x. p x.0 in
      record {
        pairs = keep test ps;
        firsts = rw (keep-map (λ x. x.0) p test ps (all-each _ (λ x. refl) ps)) at (perm_keep p r.firsts);
        seconds = rw (keep-map (λ x. x.1) q test ps (all_map (λ x h. sym (same x.0 x.1 h)) ps r.related)) at (perm_keep q r.seconds);
        related = all_keep test (λ x. R x.0 x.1) ps r.related;
      }

  -- related otherwise
  pub paired_weaker : {S : A → B → Type 0} → ((a : A) (b : B) → R a b → S a b) → Paired S xs ys
  paired_weaker f = record { pairs = r.pairs; firsts = r.firsts; seconds = r.seconds; related = all_map (λ x h. f x.0 x.1 h) r.pairs r.related }

  -- one more in front
  pub paired_cons : {a : A} {b : B} → R a b → Paired R (a ∷ xs) (b ∷ ys)
  paired_cons {a} {b} h = record { pairs = (a, b) ∷ r.pairs; firsts = Permᴰ.cons refl r.firsts; seconds = Permᴰ.cons refl r.seconds; related = (h, r.related) }

  -- what the two of a pair give
  pub paired_map : {C D : Type 0} {S : C → D → Type 0} (f : A → C) (g : B → D) → ((a : A) (b : B) → R a b → S (f a) (g b)) → Paired S (map f xs) (map g ys)
  paired_map {C} {D} {S} f g give =
      let ps = r.pairs in
      let both : A × B → C × D = λ x. (f x.0, g x.1) in
      record {
        pairs = map both ps;
        firsts = rw (map-map (λ x. x.0) both ps, ← map-map f (λ x. x.0) ps) (Permᴰ.map f r.firsts);
        seconds = rw (map-map (λ x. x.1) both ps, ← map-map g (λ x. x.1) ps) (Permᴰ.map g r.seconds);
        related = each ps r.related;
      }
    where
      each : (ps : List (A × B)) → All (λ x. R x.0 x.1) ps → All {A = C × D} (λ x. S x.0 x.1) (map (λ x. (f x.0, g x.1)) ps)
      each [] h = tt
      each (x ∷ ps) h = (give x.0 x.1 h.0, each ps h.1)

-- paired off the other way round
module _ {A B : Type 0} {R : A → B → Type 0} {S : B → A → Type 0} (turn : (a : A) (b : B) → R a b → S b a) where
  abbrev other : A × B → B × A
  other p = (p.1, p.0)

  related-turn : (ps : List (A × B)) → All (λ p. R p.0 p.1) ps → All (λ p. S p.0 p.1) (map other ps)
  related-turn [] h = tt
  related-turn (p ∷ ps) h = (turn p.0 p.1 h.0, related-turn ps h.1)

  pub paired_turn : {xs : List A} {ys : List B} → Paired R xs ys → Paired S ys xs
  paired_turn {xs} {ys} p = record {
    pairs = map other p.pairs;
    firsts = rw (map-map (λ q. q.0) other p.pairs) (Permᴰ.symm p.seconds);
    seconds = rw (map-map (λ q. q.1) other p.pairs) (Permᴰ.symm p.firsts);
    related = related-turn p.pairs p.related;
  }

-- a list beside itself, in another order
pub paired_order : {A : Type 0} {R : A → A → Type 0} → ((a : A) → R a a) → {l k : List A} → Permᴰ l k → Paired R l k
paired_order {A} {R} own {l} {k} p =
    let two : A → A × A = λ a. (a, a) in
    record {
      pairs = map two l;
      firsts = rw (map-map (λ x. x.0) two l, map-id l) (Permᴰ.refl l);
      seconds = rw (map-map (λ x. x.1) two l, map-id l) p;
      related = each l;
    }
  where
    each : (l : List A) → All {A = A × A} (λ x. R x.0 x.1) (map (λ a. (a, a)) l)
    each [] = tt
    each (a ∷ l) = (own a, each l)

-- and with one element replaced
pub paired_set : {A : Type 0} {R : A → A → Type 0} → ((a : A) → R a a) → (l : List A) (k : ℕ) (z c : A) → R (get_or l k z) c → Paired R l (set l k c)
paired_set own [] k z c h = paired_order own (Permᴰ.refl [])
paired_set own (a ∷ l) zero z c h = paired_cons (paired_order own (Permᴰ.refl l)) h
paired_set own (a ∷ l) (suc k) z c h = paired_cons (paired_set own l k z c h) (own a)

-- two lists that pair off are equally long
pub paired_length : {A B : Type 0} {R : A → B → Type 0} {xs : List A} {ys : List B} → Paired R xs ys → length xs ≡ length ys
unfolding sum_of
paired_length {xs = xs} {ys = ys} r =
    let p = paired_perm {C = ℕ} (λ a. 1) (λ b. 1) (paired_weaker r (λ a b h. refl)) in
    ones xs ∙ perm_sum (λ n. n) p ∙ sym (ones ys)
  where
    ones : {A : Type 0} (l : List A) → length l ≡ sum_of (λ n. n) (map (λ a. 1) l)
    ones [] = refl
    ones (a ∷ l) = omega (arith, ones l)

-- the only two are related
pub paired_single : {A B : Type 0} {R : A → B → Type 0} {a : A} {b : B} → Paired R (a ∷ []) (b ∷ []) → R a b
paired_single {A} {B} {R} {a} {b} r =
    go r.pairs (paired_length (paired_order {R = λ x y. x ≡ y} (λ x. refl) r.firsts)) (perm_all (λ x. x ≡ a) r.firsts (refl, tt)) (perm_all (λ y. y ≡ b) (Permᴰ.symm r.seconds) (refl, tt)) r.related
  where
    go : (ps : List (A × B)) → length (a ∷ []) ≡ length (map (λ p. p.0) ps) → All (λ x. x ≡ a) (map (λ p. p.0) ps) → All (λ y. y ≡ b) (map (λ p. p.1) ps) → All (λ p. R p.0 p.1) ps → R a b
    go [] e x y h = absurd (omega (arith, e))
    go (p ∷ ps) e x y h = subst (λ c. R c b) x.0 (subst (R p.0) y.0 h.0)
