-- What callers go by: the most uses hang only on which combinations are bad, the empty one apart, and on the capacities; they
-- never fall where more is bad or there is more room; and renumbering the active segments moves nothing. Assumes nothing.
use Prim.Native.Nat.{ℕ, zero, suc, ◌*◌, ◌≤◌, ◌<◌}
use mathlib.Core.Path.{◌≡◌, sym, ◌∙◌}
use mathlib.Core.Bool.{Bool, true}
use mathlib.Core.Logic.{◌⊎◌, ⊎_elim}
use native.Mathlib.Omega.{arith}
use native.Mathlib.Nat.{mul-le-mul_left}
use borrow.Author.Tests.{lt-ltb}
use Rattle.packing.specs.Packing.{bit, sum_to, usable, Packing}
use Rattle.packing.specs.Most.{most_uses}
use Rattle.packing.proofs.Sums.{sum_to-mono, sum_to-zero}
use Rattle.packing.proofs.Linear.{usable-some}
use Rattle.packing.proofs.Carry.{carries-most}

pub usable-bad : (bad : ℕ → Bool) (m : ℕ) → usable bad m ≡ true → bad m ≡ true
usable-bad bad m e = rw (lt-ltb 0 m (usable-some bad m e)) at e

pub bad-usable : (bad : ℕ → Bool) (m : ℕ) → 0 < m → bad m ≡ true → usable bad m ≡ true
bad-usable bad m h e = rw (lt-ltb 0 m h) e

-- what no use takes more of, no packing does
pub used-mono : (u f g : ℕ → ℕ) → ((m : ℕ) → m < 64 → 0 < u m → f m ≤ g m) → sum_to 64 (λ m. u m * f m) ≤ sum_to 64 (λ m. u m * g m)
used-mono u f g h = sum_to-mono 64 (λ m. u m * f m) (λ m. u m * g m) (λ m l. times (u m) (f m) (g m) (h m l))
  where
    times : (v x y : ℕ) → (0 < v → x ≤ y) → v * x ≤ v * y
    times zero x y h = omega arith
    times (suc v) x y h = mul-le-mul_left (suc v) (h (omega arith))

-- uses that are turned into uses of parts need no more room
parts-room : (bad : ℕ → Bool) (room more turn : ℕ → ℕ) → ((m : ℕ) → m < 64 → usable bad m ≡ true → (i : ℕ) → bit i (turn m) ≤ bit i m)
    → ((i : ℕ) → i < 6 → room i ≤ more i) → (u : ℕ → ℕ) → Packing bad room u → (i : ℕ) → i < 6 → sum_to 64 (λ m. u m * bit i (turn m)) ≤ more i
parts-room bad room more turn parts wider u p i l =
    omega (arith, used-mono u (λ m. bit i (turn m)) (bit i) (λ m s h. parts m s (p.only m s h) i), p.within i l, wider i l)

pub most-rises : (bad worse : ℕ → Bool) (room more : ℕ → ℕ) → ((m : ℕ) → 0 < m → m < 64 → bad m ≡ true → worse m ≡ true)
    → ((i : ℕ) → i < 6 → room i ≤ more i) → most_uses bad room ≤ most_uses worse more
most-rises bad worse room more h wider = carries-most record {
  turn = λ m. m;
  inside = λ m l e. l;
  bads = λ m l e. bad-usable worse m (usable-some bad m e) (h m (usable-some bad m e) l (usable-bad bad m e));
  within = parts-room bad room more (λ m. m) (λ m l e i. omega arith) wider;
}

pub most-same : (bad other : ℕ → Bool) (room rest : ℕ → ℕ) → ((m : ℕ) → 0 < m → m < 64 → bad m ≡ other m)
    → ((i : ℕ) → i < 6 → room i ≡ rest i) → most_uses bad room ≡ most_uses other rest
most-same bad other room rest h e =
    let a : most_uses bad room ≤ most_uses other rest = most-rises bad other room rest (λ m s l b. sym (h m s l) ∙ b) (λ i l. omega (arith, e i l)) in
    let b : most_uses other rest ≤ most_uses bad room = most-rises other bad rest room (λ m s l b. h m s l ∙ b) (λ i l. omega (arith, e i l)) in
    omega arith

-- the active segment i after a renumbering: it was the active segment j, whose capacity is no more, or no combination has it
abbrev pub Renumbered : (bad : ℕ → Bool) (room rest turn : ℕ → ℕ) → ℕ → Type 0
Renumbered bad room rest turn i =
    ((j : ℕ) × (j < 6) × (room j ≤ rest i) × ((m : ℕ) → m < 64 → usable bad m ≡ true → bit i (turn m) ≤ bit j m))
    ⊎ ((m : ℕ) → m < 64 → usable bad m ≡ true → bit i (turn m) ≡ 0)

-- a renumbering of the active segments, as a function of masks
pub record Renumbers (bad other : ℕ → Bool) (room rest : ℕ → ℕ) : Type 0 where
  pub turn : ℕ → ℕ
  pub inside : (m : ℕ) → m < 64 → usable bad m ≡ true → turn m < 64
  pub bads : (m : ℕ) → m < 64 → usable bad m ≡ true → usable other (turn m) ≡ true
  pub segments : (i : ℕ) → i < 6 → Renumbered bad room rest turn i

pub renumbers-most : {bad other : ℕ → Bool} {room rest : ℕ → ℕ} → Renumbers bad other room rest → most_uses bad room ≤ most_uses other rest
renumbers-most {bad} {other} {room} {rest} r = carries-most record {
  turn = r.turn;
  inside = r.inside;
  bads = r.bads;
  within = λ u p i l. ⊎_elim
      (λ s. omega (arith, used-mono u (λ m. bit i (r.turn m)) (bit s.0) (λ m k h. s.3 m k (p.only m k h)), p.within s.0 s.1, s.2))
      (λ z. omega (arith, used-mono u (λ m. bit i (r.turn m)) (λ m. 0) (λ m k h. omega (arith, z m k (p.only m k h))), sum_to-zero 64 (λ m. u m * 0) (λ m k. omega arith)))
      (r.segments i l);
}

-- renumbered there and back: as many uses
pub renumbered_same : {bad other : ℕ → Bool} {room rest : ℕ → ℕ} → Renumbers bad other room rest → Renumbers other bad rest room
    → most_uses bad room ≡ most_uses other rest
renumbered_same {bad} {other} {room} {rest} r s =
    let a : most_uses bad room ≤ most_uses other rest = renumbers-most r in
    let b : most_uses other rest ≤ most_uses bad room = renumbers-most s in
    omega arith
