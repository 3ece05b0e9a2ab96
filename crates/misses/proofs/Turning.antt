-- The masks of a list's elements after another order: each mask is turned into one that holds the same elements. Assumes nothing.
use Prim.Native.Nat.{ℕ, zero, suc, ◌+◌, ◌*◌, ◌/◌, ◌%◌, ◌^◌, ◌<◌}
use mathlib.Core.Path.{◌≡◌, refl, ap, sym, subst, ◌∙◌}
use mathlib.Core.Bool.{Bool, true, false}
use mathlib.Core.List.Permᴰ
use mathlib.Core.List.{List, [], ◌∷◌, map, Permᴰ}
use mathlib.Core.Logic.{⊎_elim}
use native.Mathlib.Omega.{arith}
use native.Mathlib.Nat.{div-one, pow-suc}
use lib.Dec.{eqb}
use lib.ListN.{length, get_or}
use Rattle.search.specs.Choice.{◌when◌else◌}
use Rattle.search.proofs.Choice.{lt_or_le}
use Rattle.packing.specs.Packing.{bit}
use Rattle.packing.proofs.Bits.{bit-suc}

-- the elements that a mask holds
unfoldable pub picked : {A : Type 0} → List A → ℕ → List A
picked [] m = []
picked (a ∷ l) m = a ∷ picked l (m / 2) when eqb (m % 2) 1 else picked l (m / 2)

pub picked-map : {A B : Type 0} (f : A → B) (l : List A) (m : ℕ) → picked (map f l) m ≡ map f (picked l m)
unfolding picked ◌when◌else◌
picked-map f [] m = refl
picked-map f (a ∷ l) m = go (eqb (m % 2) 1) (picked-map f l (m / 2))
  where
    go : (t : Bool) → picked (map f l) (m / 2) ≡ map f (picked l (m / 2))
        → (f a ∷ picked (map f l) (m / 2) when t else picked (map f l) (m / 2)) ≡ map f (a ∷ picked l (m / 2) when t else picked l (m / 2))
    go true e = ap (λ r. f a ∷ r) e
    go false e = e

-- masks of l are turned into masks of k: they hold the same, and each place of k was a place of l, with the same room
pub record Turned {A : Type 0} (room : A → ℕ) (l k : List A) : Type 0 where
  pub turn : ℕ → ℕ
  pub some : (m : ℕ) → 0 < m → 0 < turn m
  pub inside : (m : ℕ) → m < 2 ^ length l → turn m < 2 ^ length k
  pub order : (m : ℕ) → Permᴰ (picked l m) (picked k (turn m))
  pub place : ℕ → ℕ
  pub near : (i : ℕ) → i < length k → place i < length l
  pub rooms : (i : ℕ) → i < length k → get_or (map room l) (place i) 0 ≡ get_or (map room k) i 0
  pub bits : (i m : ℕ) → i < length k → bit i (turn m) ≡ bit (place i) m

-- the mask with the lowest bit of b and the rest q
abbrev join : ℕ → ℕ → ℕ
join b q = b % 2 + 2 * q

low : (b q : ℕ) → join b q % 2 ≡ b % 2
low b q = omega arith

high : (b q : ℕ) → join b q / 2 ≡ q
high b q = omega arith

pub bit-zero : (m : ℕ) → bit 0 m ≡ m % 2
bit-zero m = ap (λ n. n % 2) (div-one m)

module _ {A : Type 0} (room : A → ℕ) where
  turn-none : (l : List A) → Turned room l l
  turn-none l = record {
    turn = λ m. m;
    some = λ m h. h;
    inside = λ m h. h;
    order = λ m. Permᴰ.refl (picked l m);
    place = λ i. i;
    near = λ i h. h;
    rooms = λ i h. refl;
    bits = λ i m h. refl;
  }

  turn-both : {l k h : List A} → Turned room l k → Turned room k h → Turned room l h
  turn-both s t = record {
    turn = λ m. t.turn (s.turn m);
    some = λ m h. t.some (s.turn m) (s.some m h);
    inside = λ m h. t.inside (s.turn m) (s.inside m h);
    order = λ m. Permᴰ.trans (s.order m) (t.order (s.turn m));
    place = λ i. s.place (t.place i);
    near = λ i h. s.near (t.place i) (t.near i h);
    rooms = λ i h. s.rooms (t.place i) (t.near i h) ∙ t.rooms i h;
    bits = λ i m h. t.bits i (s.turn m) h ∙ s.bits (t.place i) m (t.near i h);
  }

  turn-cons : (a : A) (l k : List A) → Turned room l k → Turned room (a ∷ l) (a ∷ k)
  unfolding picked ◌when◌else◌
  turn-cons a l k t = record {
    turn = σ;
    some = λ m h. ⊎_elim (λ g. omega arith) (λ g. omega (arith, t.some (m / 2) (omega arith))) (lt_or_le 0 (m % 2));
    inside = λ m h. omega (arith, t.inside (m / 2) (omega (arith, pow-suc 2 (length l))), pow-suc 2 (length k));
    order = λ m. rw (low, high) (go (eqb (m % 2) 1) (m / 2));
    place = at;
    near = near;
    rooms = rooms;
    bits = bits;
  }
    where
      σ : ℕ → ℕ
      σ m = join m (t.turn (m / 2))

      go : (b : Bool) (m : ℕ) → Permᴰ (a ∷ picked l m when b else picked l m) (a ∷ picked k (t.turn m) when b else picked k (t.turn m))
      go true m = Permᴰ.cons refl (t.order m)
      go false m = t.order m

      at : ℕ → ℕ
      at zero = 0
      at (suc i) = suc (t.place i)

      near : (i : ℕ) → i < length (a ∷ k) → at i < length (a ∷ l)
      near zero h = omega arith
      near (suc i) h = omega (arith, t.near i (omega arith))

      rooms : (i : ℕ) → i < length (a ∷ k) → get_or (map room (a ∷ l)) (at i) 0 ≡ get_or (map room (a ∷ k)) i 0
      rooms zero h = refl
      rooms (suc i) h = t.rooms i (omega arith)

      bits : (i m : ℕ) → i < length (a ∷ k) → bit i (σ m) ≡ bit (at i) m
      bits zero m h = bit-zero (σ m) ∙ low m (t.turn (m / 2)) ∙ sym (bit-zero m)
      bits (suc i) m h =
          bit-suc i (σ m) ∙ ap (bit i) (high m (t.turn (m / 2))) ∙ t.bits i (m / 2) (omega arith) ∙ sym (bit-suc (t.place i) m)

  turn_swap : (a b : A) (l : List A) → Turned room (a ∷ b ∷ l) (b ∷ a ∷ l)
  unfolding picked ◌when◌else◌
  turn_swap a b l = record {
    turn = σ;
    some = λ m h. ⊎_elim (λ g. omega arith) (λ g. ⊎_elim (λ f. omega arith) (λ f. omega arith) (lt_or_le 0 (m / 2 % 2))) (lt_or_le 0 (m % 2));
    inside = λ m h.
        let a = pow-suc 2 (length l) in
        let b = pow-suc 2 (suc (length l)) in
        let c : m / 2 < 2 ^ suc (length l) = omega arith in
        let d : m / 2 / 2 < 2 ^ length l = omega arith in
        omega arith;
    order = λ m. rw (low-σ, high-σ, low, high) (go (eqb (m % 2) 1) (eqb (m / 2 % 2) 1) (picked l (m / 2 / 2)));
    place = at;
    near = near;
    rooms = rooms;
    bits = bits;
  }
    where
      rest : ℕ → ℕ
      rest m = join m (m / 2 / 2)

      σ : ℕ → ℕ
      σ m = join (m / 2) (rest m)

      low-σ : (m : ℕ) → σ m % 2 ≡ m / 2 % 2
      low-σ m = low (m / 2) (rest m)

      high-σ : (m : ℕ) → σ m / 2 ≡ rest m
      high-σ m = high (m / 2) (rest m)

      go : (t u : Bool) (r : List A)
          → Permᴰ (a ∷ (b ∷ r when u else r) when t else (b ∷ r when u else r)) (b ∷ (a ∷ r when t else r) when u else (a ∷ r when t else r))
      go true true r = Permᴰ.swap refl refl
      go true false r = Permᴰ.refl _
      go false true r = Permᴰ.refl _
      go false false r = Permᴰ.refl _

      at : ℕ → ℕ
      at zero = 1
      at (suc zero) = 0
      at (suc (suc i)) = suc (suc i)

      near : (i : ℕ) → i < length (b ∷ a ∷ l) → at i < length (a ∷ b ∷ l)
      near zero h = omega arith
      near (suc zero) h = omega arith
      near (suc (suc i)) h = h

      rooms : (i : ℕ) → i < length (b ∷ a ∷ l) → get_or (map room (a ∷ b ∷ l)) (at i) 0 ≡ get_or (map room (b ∷ a ∷ l)) i 0
      rooms zero h = refl
      rooms (suc zero) h = refl
      rooms (suc (suc i)) h = refl

      bits : (i m : ℕ) → i < length (b ∷ a ∷ l) → bit i (σ m) ≡ bit (at i) m
      bits zero m h = bit-zero (σ m) ∙ low-σ m ∙ sym (bit-zero (m / 2)) ∙ sym (bit-suc 0 m)
      bits (suc zero) m h = bit-suc 0 (σ m) ∙ ap (bit 0) (high-σ m) ∙ bit-zero (rest m) ∙ low m (m / 2 / 2) ∙ sym (bit-zero m)
      bits (suc (suc i)) m h =
          bit-suc (suc i) (σ m) ∙ ap (bit (suc i)) (high-σ m) ∙ bit-suc i (rest m) ∙ ap (bit i) (high m (m / 2 / 2))
          ∙ sym (bit-suc i (m / 2)) ∙ sym (bit-suc (suc i) m)

  -- no order of the elements moves the masks
  pub turned : {l k : List A} → Permᴰ l k → Turned room l k
  turned Permᴰ.nil = turn-none []
  turned (Permᴰ.cons {a = a} {l₁ = l} {l₂ = r} e p) = subst (λ b. Turned room (a ∷ l) (b ∷ r)) e (turn-cons a l r (turned p))
  turned (Permᴰ.swap {a = a} {b = b} {l = l} e f) = rw (← e, ← f) (turn_swap a b l)
  turned (Permᴰ.trans p q) = turn-both (turned p) (turned q)
