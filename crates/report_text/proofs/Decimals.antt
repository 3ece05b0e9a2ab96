-- A number in decimal: by its last digit, and how long it is. Assumes nothing.
use Prim.Native.Nat.{ℕ, zero, suc, ◌+◌, ◌*◌, ◌-◌, ◌/◌, ◌%◌, ◌^◌, ◌≤◌, ◌<◌}
use native.Mathlib.Omega.{arith}
use native.Mathlib.Decide.{dec_lt}
use native.Mathlib.Numerals.{add-one}
use mathlib.Core.Path.{◌≡◌, refl, ap, sym, ◌∙◌}
use mathlib.Core.List.{List, [], ◌∷◌, ◌++◌}
use borrow.Author.Tests.{lt-ltb, le-ltb, ltb-true}
use lib.Dec.{ltb}
use lib.ListN.{length, get_or, length-append, get_or-append}
use Rattle.search.specs.Choice.{◌when◌else◌}
use Rattle.search.proofs.Choice.{when_yes, when_no, when_cases}
use Rattle.report_text.specs.Numbers.{digits, decimal, value_from}

-- more room for digits than n has gives none
digits-enough : (f g n : ℕ) → n < f → n < g → digits f n ≡ digits g n
unfolding digits
digits-enough zero g n h k = absurd (omega (arith, h))
digits-enough (suc f) zero n h k = absurd (omega (arith, k))
digits-enough (suc f) (suc g) n h k =
    when_cases (λ l. l ++ ((48 + n % 10) ∷ []) ≡ (digits g (n / 10) when ltb 9 n else []) ++ ((48 + n % 10) ∷ [])) (ltb 9 n)
    (λ e. ap (λ l. l ++ ((48 + n % 10) ∷ [])) (digits-enough f g (n / 10) (omega (arith, ltb-true 9 n e)) (omega (arith, ltb-true 9 n e)) ∙ sym (when_yes _ _ e)))
    (λ e. ap (λ l. l ++ ((48 + n % 10) ∷ [])) (sym (when_no _ _ e)))

-- one digit
pub decimal-one : (n : ℕ) → n ≤ 9 → decimal n ≡ (48 + n % 10) ∷ []
unfolding decimal digits ◌when◌else◌
decimal-one n h = rw (add-one, le-ltb 9 n h)

-- the digits before the last one, and that
pub decimal-more : (n : ℕ) → 9 < n → decimal n ≡ decimal (n / 10) ++ ((48 + n % 10) ∷ [])
unfolding decimal digits ◌when◌else◌
decimal-more n h =
    rw (add-one n, lt-ltb 9 n h) (ap (λ l. l ++ ((48 + n % 10) ∷ [])) (digits-enough n (n / 10 + 1) (n / 10) (omega (arith, h)) (omega arith)))

-- a number below 10 ^ k has at most k digits
pub decimal-short : (k n : ℕ) → n < 10 ^ suc k → length (decimal n) ≤ suc k
decimal-short zero n h = rw (decimal-one n (omega (arith, h))) (omega arith)
decimal-short (suc k) n h = elim (dec_lt 9 n) [
  | yes g ↦ let d : n / 10 < 10 ^ suc k = omega (arith, h) in
      rw (decimal-more n g) (omega (arith, length-append (decimal (n / 10)) ((48 + n % 10) ∷ []), decimal-short k (n / 10) d))
  | no g ↦ rw (decimal-one n (omega (arith, g))) (omega arith)
]

-- a number of 32 bits has at most 10 digits
pub decimal-fits : (n : ℕ) → n < 4294967296 → length (decimal n) ≤ 10
decimal-fits n h = decimal-short 9 n (omega (arith, h))

value-more : (m : ℕ) (ds : List ℕ) (d : ℕ) → value_from m (ds ++ (d ∷ [])) ≡ 10 * value_from m ds + (d - 48)
unfolding value_from
value-more m [] d = refl
value-more m (e ∷ ds) d = value-more (10 * m + (e - 48)) ds d

-- what is made of a number, by its last digit
decimal-cases : (P : ℕ → List ℕ → Type 0) → ((n : ℕ) → n ≤ 9 → P n ((48 + n % 10) ∷ []))
    → ((n : ℕ) → 9 < n → P (n / 10) (decimal (n / 10)) → P n (decimal (n / 10) ++ ((48 + n % 10) ∷ []))) → (most n : ℕ) → n < most → P n (decimal n)
decimal-cases P one more zero n h = absurd (omega (arith, h))
decimal-cases P one more (suc most) n h = elim (dec_lt 9 n) [
  | yes g ↦ rw (decimal-more n g) (more n g (decimal-cases P one more most (n / 10) (omega (arith, g, h))))
  | no g ↦ rw (decimal-one n (omega (arith, g))) (one n (omega (arith, g)))
]

-- read back, a number in decimal is that number
pub decimal-value : (n : ℕ) → value_from 0 (decimal n) ≡ n
unfolding value_from
decimal-value n =
    decimal-cases (λ n ds. value_from 0 ds ≡ n) (λ n h. omega (arith, h)) (λ n h e. value-more 0 (decimal (n / 10)) (48 + n % 10) ∙ omega (arith, e)) (n + 1) n (omega arith)

-- its first digit is above `0`, unless it is 0
pub decimal-first : (n : ℕ) → 0 < n → 48 < get_or (decimal n) 0 0
decimal-first n h =
    (decimal-cases (λ n ds. (0 < n → 48 < get_or ds 0 0) × (0 < length ds)) (λ n h. ((λ g. omega (arith, g, h)), omega arith))
    (λ n h e. (
      (λ g. rw (get_or-append (decimal (n / 10)) ((48 + n % 10) ∷ []) 0 0 e.1) (e.0 (omega (arith, h)))),
      omega (arith, length-append (decimal (n / 10)) ((48 + n % 10) ∷ []), e.1),
    )) (n + 1) n (omega arith)).0 h
