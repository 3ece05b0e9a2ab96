-- Going on: what is later than a later packing is later, and so much the less is ahead. The digits are those of a number to the base
-- 256, and a later packing is a larger number. Assumes nothing.
use Prim.Native.Nat.{ℕ, zero, suc, ◌+◌, ◌-◌, ◌*◌, ◌≤◌, ◌<◌}
use mathlib.Core.Path.{◌≡◌, ap, subst, ◌∙◌}
use mathlib.Core.Bool.{Bool, true, false}
use mathlib.Core.Logic.{◌⊎◌, inl, inr, ⊎_elim}
use native.Mathlib.Omega.{arith}
use native.Mathlib.Nat.{eq-or-lt_of_le, le_of_suc-le-suc, mul-le-mul_right}
use Rattle.search.specs.Choice.{◌when◌else◌}
use Rattle.search.proofs.Choice.{when_no, when_cases, true-not-false, lt_or_le}
use Rattle.packing.specs.Packing.{sum_to}
use Rattle.odometer.specs.declared.Odometer.{Odometer}
use Rattle.odometer.specs.Code.Gone.{uses_of, Before, Gone, GoesOn}
use Rattle.odometer.proofs.Turns.{gone-few}

-- 256 to the power of n
unfoldable power : ℕ → ℕ
power zero = 1
power (suc n) = 256 * power n

-- the number that the first n digits are
abbrev number : ℕ → (ℕ → ℕ) → ℕ
number n u = sum_to n (λ m. u m * power m)

number-below : (n : ℕ) (u : ℕ → ℕ) → ((m : ℕ) → m < n → u m ≤ 255) → number n u < power n
unfolding sum_to power
number-below zero u h = omega arith
number-below (suc n) u h = omega (arith, number-below n u (λ m l. h m (omega arith)), mul-le-mul_right (power n) (h n (omega arith)))

-- the digits above `at` are the same, and that at it is larger
number-rises : (n at : ℕ) (v u : ℕ → ℕ) → ((m : ℕ) → m < n → v m ≤ 255) → at < n → v at < u at → ((m : ℕ) → at < m → m < n → v m ≡ u m) → number n v < number n u
unfolding sum_to
number-rises zero at v u h l f s = absurd (omega arith)
number-rises (suc n) at v u h l f s = ⊎_elim
    (λ e. let more : suc (v n) ≤ u n = omega (arith, ap v e, ap u e, f) in omega (arith, number-below n v (λ m k. h m (omega arith)), mul-le-mul_right (power n) more))
    (λ k. omega (arith, number-rises n at v u (λ m q. h m (omega arith)) k f (λ m q r. s m q (omega arith)), ap (λ d. d * power n) (s n k (omega arith))))
    (eq-or-lt_of_le (le_of_suc-le-suc l))

-- the numbers from its own on, none where it is over
pub ahead : Odometer → ℕ
ahead o = 0 when o.over else suc (power 64 - number 64 (uses_of o))

-- so a loop that goes on ends
pub ahead-falls : {bad : ℕ → Bool} {room : ℕ → ℕ} {n : ℕ} {o r : Odometer} → Gone bad room o → o.over ≡ false → 0 < n → GoesOn bad n o r → ahead r < ahead o
unfolding ahead
ahead-falls {o = o} {r = r} g e l t =
    let a = when_no 0 (suc (power 64 - number 64 (uses_of o))) e in
    let few = gone-few g in
    when_cases (λ n. n < ahead o) r.over (λ q. omega (arith, a)) (λ f. ⊎_elim
    (λ q. absurd (true-not-false q f))
    (λ b. omega (arith, a, number-below 64 (uses_of o) few, number-rises 64 b.at (uses_of o) (uses_of r) few b.there b.fewer b.alike))
    (t.later l))

-- what is later than a later packing is later
before_trans : {u v w : ℕ → ℕ} → Before u v → Before v w → Before u w
before_trans {u} {v} {w} a b = ⊎_elim
    (λ l. record { at = b.at; there = b.there; fewer = omega (arith, b.fewer, a.alike b.at l b.there); alike = λ m h q. a.alike m (omega arith) q ∙ b.alike m h q })
    (λ l. record { at = a.at; there = a.there; fewer = ⊎_elim (λ e. omega (arith, a.fewer, b.fewer, ap v e, ap w e)) (λ k. omega (arith, a.fewer, b.alike a.at k a.there)) (eq-or-lt_of_le l); alike = λ m h q. a.alike m h q ∙ b.alike m (omega arith) q })
    (lt_or_le a.at b.at)

-- after n packings o is where it was, or it has gone on from s
abbrev pub Since : ℕ → Odometer → Odometer → Type 0
Since n s o = ((n ≡ 0) × (o ≡ s)) ⊎ ((o.over ≡ true) ⊎ Before (uses_of s) (uses_of o))

pub since_on : {n : ℕ} {s o r : Odometer} → Since n s o → o.over ≡ false → (r.over ≡ true) ⊎ Before (uses_of o) (uses_of r) → Since (n + 1) s r
since_on {s = s} {o = o} {r = r} h e later = inr (⊎_elim inl (λ b. ⊎_elim
    (λ q. inr (subst (λ (x : Odometer). Before (uses_of x) (uses_of r)) q.1 b))
    (λ q. ⊎_elim (λ t. absurd (true-not-false t e)) (λ a. inr (before_trans a b)) q)
    h) later)

pub since_end : {n : ℕ} {s o : Odometer} → Since n s o → 0 < n → (o.over ≡ true) ⊎ Before (uses_of s) (uses_of o)
since_end h l = ⊎_elim (λ q. absurd (omega (arith, q.0))) (λ q. q) h
