-- Which active segments may stand together goes neither by their order nor by what their chains and segments are called. Assumes nothing.
use Prim.Native.Nat.{ℕ}
use mathlib.Core.Path.{◌≡◌, refl, ap, ap₂, sym, ◌∙◌}
use mathlib.Core.Bool.{Bool, true, false, ◌&&◌, ◌||◌}
use mathlib.Core.List.{List, [], ◌∷◌, map, Permᴰ}
use native.Mathlib.Decide.{ℕ_discrete}
use lib.Dec.{eqb}
use borrow.Author.Tests.{eq-eqb, ne_eqb, eqb-true}
use Rattle.search.proofs.Choice.{when_yes, when_no}
use Rattle.search.specs.Lists.{some, every}
use Rattle.misses.specs.Overloads.{Piece}
use Rattle.misses.specs.Sets.{agree, together}
use Rattle.misses.proofs.Bools.{and_left, and_right}

-- tests over a list in another order
module _ {A : Type 0} (p : A → Bool) where
  pub perm_some : {l r : List A} → Permᴰ l r → some p l ≡ some p r
  unfolding some
  perm_some Permᴰ.nil = refl
  perm_some (Permᴰ.cons e q) = ap₂ ◌||◌ (ap p e) (perm_some q)
  perm_some (Permᴰ.swap {a' = a} {b' = b} {l = l} e f) = rw (e, f) (go (p a) (p b) (some p l))
    where
      go : (x y z : Bool) → (y || (x || z)) ≡ (x || (y || z))
      go true true z = refl
      go true false z = refl
      go false true z = refl
      go false false z = refl
  perm_some (Permᴰ.trans q s) = perm_some q ∙ perm_some s

  pub perm_every : {l r : List A} → Permᴰ l r → every p l ≡ every p r
  unfolding every
  perm_every Permᴰ.nil = refl
  perm_every (Permᴰ.cons e q) = ap₂ ◌&&◌ (ap p e) (perm_every q)
  perm_every (Permᴰ.swap {a' = a} {b' = b} {l = l} e f) = rw (e, f) (go (p a) (p b) (every p l))
    where
      go : (x y z : Bool) → (y && (x && z)) ≡ (x && (y && z))
      go true true z = refl
      go true false z = refl
      go false true z = refl
      go false false z = refl
  perm_every (Permᴰ.trans q s) = perm_every q ∙ perm_every s

-- which of two comes first does not matter
eqb-turn : (x y : ℕ) → eqb x y ≡ eqb y x
eqb-turn x y = elim (ℕ_discrete x y) [ yes e ↦ eq-eqb x y e ∙ sym (eq-eqb y x (sym e)) | no e ↦ ne_eqb x y e ∙ sym (ne_eqb y x (λ f. e (sym f))) ]

pub agree-turn : (p r : Piece) → agree p r ≡ agree r p
agree-turn p r = elim (ℕ_discrete p.chain r.chain) [
  | yes e ↦ when_yes _ _ (eq-eqb _ _ e) ∙ eqb-turn p.segment r.segment ∙ sym (when_yes _ _ (eq-eqb _ _ (sym e)))
  | no e ↦ when_no _ _ (ne_eqb _ _ e) ∙ sym (when_no _ _ (ne_eqb _ _ (λ f. e (sym f))))
]

together-turn : (a b : Piece) (l : List Piece) → together (a ∷ b ∷ l) ≡ together (b ∷ a ∷ l)
unfolding together every
together-turn a b l = rw (agree-turn b a) (go (agree a b) (every (agree a) l) (every (agree b) l) (together l))
  where
    go : (x y z w : Bool) → ((x && y) && (z && w)) ≡ ((x && z) && (y && w))
    go true true true w = refl
    go true true false w = refl
    go true false true w = refl
    go true false false w = refl
    go false y z w = refl

pub perm_together : {l r : List Piece} → Permᴰ l r → together l ≡ together r
unfolding together every
perm_together Permᴰ.nil = refl
perm_together (Permᴰ.cons {b = b} e q) = rw e (ap₂ ◌&&◌ (perm_every (agree b) q) (perm_together q))
perm_together (Permᴰ.swap {a = a} {b = b} {l = l} e f) = together-turn a b l ∙ ap₂ (λ x y. together (x ∷ y ∷ l)) f e
perm_together (Permᴰ.trans q s) = perm_together q ∙ perm_together s

-- other names that keep together what stood together
module _ (f : Piece → Piece) (keeps : (p r : Piece) → agree p r ≡ true → agree (f p) (f r) ≡ true) where
  every-renamed : (p : Piece) (l : List Piece) → every (agree p) l ≡ true → every (agree (f p)) (map f l) ≡ true
  unfolding every
  every-renamed p [] e = refl
  every-renamed p (r ∷ l) e = ap₂ ◌&&◌ (keeps p r (and_left (agree p r) _ e)) (every-renamed p l (and_right (agree p r) _ e))

  pub together-renamed : (l : List Piece) → together l ≡ true → together (map f l) ≡ true
  unfolding together
  together-renamed [] e = refl
  together-renamed (p ∷ l) e = ap₂ ◌&&◌ (every-renamed p l (and_left (every (agree p) l) _ e)) (together-renamed l (and_right (every (agree p) l) _ e))

-- chains bear other numbers, and the segments of each bear others
abbrev pub renamed : (ℕ → ℕ) → (ℕ → ℕ → ℕ) → Piece → Piece
renamed chain name p = record { chain = chain p.chain; segment = name p.chain p.segment; cost = p.cost }

-- where no two chains bear the same, what stood together does so still
pub agree-renamed : (chain : ℕ → ℕ) (name : ℕ → ℕ → ℕ) → ((x y : ℕ) → chain x ≡ chain y → x ≡ y) → (p r : Piece) → agree p r ≡ true
    → agree (renamed chain name p) (renamed chain name r) ≡ true
agree-renamed chain name apart p r a = elim (ℕ_discrete (chain p.chain) (chain r.chain)) [
  | yes e ↦
      let own = apart p.chain r.chain e in
      let same = eqb-true p.segment r.segment (sym (when_yes _ _ (eq-eqb _ _ own)) ∙ a) in
      when_yes _ _ (eq-eqb _ _ e) ∙ eq-eqb _ _ (ap₂ name own same)
  | no e ↦ when_no _ _ (ne_eqb _ _ e)
]
