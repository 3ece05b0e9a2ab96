-- Those of a list that pass a test: in another order, of what the elements give, and where none, all or one passes. Assumes nothing.
use Prim.Native.Nat.{ℕ, zero, suc, ◌+◌, ◌<◌, ◌≤◌}
use mathlib.Core.Path.{◌≡◌, refl, ap, ◌∙◌}
use mathlib.Core.List.Permᴰ
use mathlib.Core.List.{List, [], ◌∷◌, ◌++◌, map, Permᴰ}
use mathlib.Core.Bool.{Bool, true, false}
use native.Mathlib.Omega.{arith}
use lib.ListN.{length, get_or, take, drop}
use Rattle.search.specs.Choice.{◌when◌else◌}
use Rattle.search.specs.Lists.{All, keep}
use Rattle.search.proofs.Choice.{when_yes, when_no, when_cases}

module _ {A : Type 0} (p : A → Bool) where
  pub perm_keep : {l r : List A} → Permᴰ l r → Permᴰ (keep p l) (keep p r)
  unfolding keep ◌when◌else◌
  perm_keep Permᴰ.nil = Permᴰ.nil
  perm_keep (Permᴰ.cons {b = b} {l₁ = l} {l₂ = r} e q) = rw e (go (p b) (perm_keep q))
    where
      go : (t : Bool) → Permᴰ (keep p l) (keep p r) → Permᴰ (b ∷ keep p l when t else keep p l) (b ∷ keep p r when t else keep p r)
      go true s = Permᴰ.cons refl s
      go false s = s
  perm_keep (Permᴰ.swap {a' = c} {b' = d} {l = l} e f) = rw (e, f) (go (p d) (p c))
    where
      go : (t u : Bool)
          → Permᴰ (d ∷ (c ∷ keep p l when u else keep p l) when t else (c ∷ keep p l when u else keep p l))
          (c ∷ (d ∷ keep p l when t else keep p l) when u else (d ∷ keep p l when t else keep p l))
      go true true = Permᴰ.swap refl refl
      go true false = Permᴰ.refl _
      go false true = Permᴰ.refl _
      go false false = Permᴰ.refl _
  perm_keep (Permᴰ.trans q s) = Permᴰ.trans (perm_keep q) (perm_keep s)

  pub all_keep : (P : A → Type 0) (l : List A) → All P l → All P (keep p l)
  unfolding keep
  all_keep P [] h = tt
  all_keep P (a ∷ l) h = when_cases (All P) (p a) (λ e. (h.0, all_keep P l h.1)) (λ e. all_keep P l h.1)

  -- one by one, of two lists, and how many
  pub keep-first : (a : A) (l : List A) → (a ∷ [] when p a else []) ++ keep p l ≡ keep p (a ∷ l)
  unfolding keep ◌when◌else◌
  keep-first a l = by (p a)
    where
      by : (t : Bool) → (a ∷ [] when t else []) ++ keep p l ≡ (a ∷ keep p l when t else keep p l)
      by true = refl
      by false = refl

  pub keep_append : (l r : List A) → keep p (l ++ r) ≡ keep p l ++ keep p r
  unfolding keep ◌when◌else◌
  keep_append [] r = refl
  keep_append (a ∷ l) r = by (p a) (keep_append l r)
    where
      by : (t : Bool) → keep p (l ++ r) ≡ keep p l ++ keep p r → (a ∷ keep p (l ++ r) when t else keep p (l ++ r)) ≡ (a ∷ keep p l when t else keep p l) ++ keep p r
      by true on = ap (λ (x : List A). a ∷ x) on
      by false on = on

  pub keep-length : (l : List A) → length (keep p l) ≤ length l
  unfolding keep
  keep-length [] = omega arith
  keep-length (a ∷ l) =
      let h = keep-length l in
      when_cases {x = a ∷ keep p l} {y = keep p l} (λ r. length r ≤ suc (length l)) (p a) (λ e. omega (arith, h)) (λ e. omega (arith, h))

-- the same test, before and after
pub keep-map : {A B : Type 0} (f : A → B) (p : B → Bool) (q : A → Bool) (l : List A) → All (λ a. p (f a) ≡ q a) l → keep p (map f l) ≡ map f (keep q l)
unfolding keep ◌when◌else◌
keep-map f p q [] h = refl
keep-map f p q (a ∷ l) h = ap (λ t. f a ∷ keep p (map f l) when t else keep p (map f l)) h.0 ∙ go (q a) (keep-map f p q l h.1)
  where
    go : (t : Bool) → keep p (map f l) ≡ map f (keep q l) → (f a ∷ keep p (map f l) when t else keep p (map f l)) ≡ map f (a ∷ keep q l when t else keep q l)
    go true e = ap (λ r. f a ∷ r) e
    go false e = e

-- none passes, all do, or one does and no other
module _ {A : Type 0} (z : A) where
  pub keep-none : (p : A → Bool) (l : List A) → ((j : ℕ) → j < length l → p (get_or l j z) ≡ false) → keep p l ≡ []
  unfolding keep
  keep-none p [] h = refl
  keep-none p (a ∷ l) h = when_no _ _ (h 0 (omega arith)) ∙ keep-none p l (λ j k. h (suc j) (omega arith))

  pub keep_all : (p : A → Bool) (l : List A) → ((j : ℕ) → j < length l → p (get_or l j z) ≡ true) → keep p l ≡ l
  unfolding keep
  keep_all p [] h = refl
  keep_all p (a ∷ l) h = when_yes _ _ (h 0 (omega arith)) ∙ ap (λ r. a ∷ r) (keep_all p l (λ j k. h (suc j) (omega arith)))

  pub keep_one : (p : A → Bool) (l : List A) (k : ℕ) → k < length l → p (get_or l k z) ≡ true → ((j : ℕ) → j < length l → (j ≡ k → ⊥) → p (get_or l j z) ≡ false)
      → keep p l ≡ get_or l k z ∷ []
  unfolding keep
  keep_one p [] k h e none = absurd (omega arith)
  keep_one p (a ∷ l) zero h e none = when_yes _ _ e ∙ ap (λ r. a ∷ r) (keep-none p l (λ j m. none (suc j) (omega arith) (λ f. omega arith)))
  keep_one p (a ∷ l) (suc k) h e none =
      when_no _ _ (none 0 (omega arith) (λ f. omega arith)) ∙ keep_one p l k (omega arith) e (λ j m n. none (suc j) (omega arith) (λ f. n (omega arith)))

  pub keep-rest : (p : A → Bool) (l : List A) (k : ℕ) → k < length l → p (get_or l k z) ≡ false → ((j : ℕ) → j < length l → (j ≡ k → ⊥) → p (get_or l j z) ≡ true)
      → keep p l ≡ take k l ++ drop (k + 1) l
  unfolding keep
  keep-rest p [] k h e rest = absurd (omega arith)
  keep-rest p (a ∷ l) zero h e rest = when_no _ _ e ∙ keep_all p l (λ j m. rest (suc j) (omega arith) (λ f. omega arith))
  keep-rest p (a ∷ l) (suc k) h e rest =
      let s : suc k + 1 ≡ suc (k + 1) = omega arith in
      when_yes _ _ (rest 0 (omega arith) (λ f. omega arith))
      ∙ rw s (ap (λ r. a ∷ r) (keep-rest p l k (omega arith) e (λ j m n. rest (suc j) (omega arith) (λ f. n (omega arith)))))
