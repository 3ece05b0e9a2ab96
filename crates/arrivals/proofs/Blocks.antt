-- Of s numbers some that stand together add up to a multiple of s. Assumes nothing.
use Prim.Native.Nat.{ℕ, zero, suc, ◌+◌, ◌*◌, ◌/◌, ◌%◌, ◌-◌, ◌≤◌, ◌<◌, min}
use mathlib.Core.Path.{◌≡◌, ap, sym, ◌∙◌}
use mathlib.Core.List.{List}
use mathlib.Core.Logic.{◌⊎◌, inl, inr, ⊎_elim}
use native.Mathlib.Omega.{arith}
use native.Mathlib.Nat.{eq-or-lt_of_le, mul-le-mul_right, div-add-mod', mod-lt}
use lib.ListN.{length, take, drop, take-append-drop}
use Rattle.search.specs.Lists.{sum_of}
use Rattle.search.proofs.Choice.{lt_or_le}
use Rattle.search.proofs.Lists.{sum_append}

-- a number is below another, is it, or is above it
order : (x v : ℕ) → (x < v) ⊎ ((x ≡ v) ⊎ (v < x))
order x v = ⊎_elim inl (λ h. ⊎_elim (λ e. inr (inl (sym e))) (λ l. inr (inr l)) (eq-or-lt_of_le h)) (lt_or_le x v)

-- one of the first n is v, or none is
found : (f : ℕ → ℕ) (v n : ℕ) → ((i : ℕ) × (i < n) × (f i ≡ v)) ⊎ ((i : ℕ) → i < n → (f i < v) ⊎ (v < f i))
found f v zero = inr (λ i l. absurd (omega arith))
found f v (suc n) = ⊎_elim (λ a. inl (a.0, omega (arith, a.1), a.2)) (λ none. by none (order (f n) v)) (found f v n)
  where
    Apart : ℕ → Type 0
    Apart i = (f i < v) ⊎ (v < f i)

    with : ((i : ℕ) → i < n → Apart i) → Apart n → (i : ℕ) → i < suc n → Apart i
    with none last i l = ⊎_elim (λ e. let e' : i ≡ n = omega arith in ⊎_elim (λ h. inl (omega (arith, h, ap f e'))) (λ h. inr (omega (arith, h, ap f e'))) last) (λ h. none i (omega arith)) (eq-or-lt_of_le l)

    by : ((i : ℕ) → i < n → Apart i) → (f n < v) ⊎ ((f n ≡ v) ⊎ (v < f n)) → ((i : ℕ) × (i < suc n) × (f i ≡ v)) ⊎ ((i : ℕ) → i < suc n → Apart i)
    by none (inl h) = inr (with none (inl h))
    by none (inr (inl e)) = inl (n, omega arith, e)
    by none (inr (inr h)) = inr (with none (inr h))

-- numbers other than v, each above it made one less: none falls together with another
abbrev without : ℕ → ℕ → ℕ
without v x = x - min 1 (x - v)

apart : (v x y : ℕ) → (x < v) ⊎ (v < x) → (y < v) ⊎ (v < y) → without v x ≡ without v y → x ≡ y
apart v x y (inl h) (inl g) e = omega arith
apart v x y (inl h) (inr g) e = omega arith
apart v x y (inr h) (inl g) e = omega arith
apart v x y (inr h) (inr g) e = omega arith

-- of s + 1 numbers below s two are the same
same : (s : ℕ) (f : ℕ → ℕ) → ((i : ℕ) → i ≤ s → f i < s) → (i j : ℕ) × (i < j) × (j ≤ s) × (f i ≡ f j)
same zero f less = absurd (omega (arith, less 0 (omega arith)))
same (suc s) f less = ⊎_elim
    (λ a. (a.0, suc s, a.1, omega arith, a.2))
    (λ none.
    let r = same s (λ i. without (f (suc s)) (f i)) (λ i h. ⊎_elim (λ l. omega (arith, l, less (suc s) (omega arith))) (λ l. omega (arith, l, less i (omega arith))) (none i (omega arith))) in
    (r.0, r.1, r.2, omega (arith, r.3), apart (f (suc s)) (f r.0) (f r.1) (none r.0 (omega (arith, r.2, r.3))) (none r.1 (omega (arith, r.3))) r.4))
    (found f (f (suc s)) (suc s))

-- two numbers with the same remainder differ by a multiple
pub multiple : (s a b : ℕ) → a < b → a % s ≡ b % s → (k : ℕ) × (1 ≤ k) × (b ≡ a + k * s)
multiple s a b l e = ⊎_elim
    (λ h.
    let k : ℕ = b / s - a / s in
    let q : b / s ≡ a / s + k = omega arith in
    (k, omega arith, omega (arith, div-add-mod' a s, div-add-mod' b s, ap (λ x. x * s) q)))
    (λ h. absurd (omega (arith, mul-le-mul_right s h, div-add-mod' a s, div-add-mod' b s)))
    (lt_or_le (a / s) (b / s))

-- a sum cut in two
pub sum-cut : (f : ℕ → ℕ) (n : ℕ) (l : List ℕ) → sum_of f (take n l) + sum_of f (drop n l) ≡ sum_of f l
sum-cut f n l = sym (sum_append f (take n l) (drop n l)) ∙ ap (sum_of f) (take-append-drop n l)

-- of s steps or more some that stand together, from i up to j, have a multiple of s in all
pub block : (s : ℕ) (steps : List ℕ) → 1 ≤ s → s ≤ length steps → ((i j : ℕ) → i < j → j ≤ length steps → sum_of (λ x. x) (take i steps) < sum_of (λ x. x) (take j steps))
    → (i j k : ℕ) × (i < j) × (1 ≤ k) × (sum_of (λ x. x) (take j steps) ≡ sum_of (λ x. x) (take i steps) + k * s)
block s steps low long rises =
    let up : ℕ → ℕ = λ i. sum_of (λ x. x) (take i steps) in
    let r = same s (λ i. up i % s) (λ i h. mod-lt (up i) low) in
    let m = multiple s (up r.0) (up r.1) (rises r.0 r.1 r.2 (omega (arith, r.3))) r.4 in
    (r.0, r.1, m.0, r.2, m.1, m.2)
