-- δ in closed form: after a head each best step adds its distance; and a list whose repetition adds up has 01's δ. Assumes nothing.
use Prim.Native.Nat.{ℕ, zero, suc, zero-le, ◌+◌, ◌*◌, ◌/◌, ◌%◌, ◌-◌, ◌≤◌, ◌<◌}
use mathlib.Core.Path.{◌≡◌, refl, ap}
use mathlib.Core.List.{List, [], ◌∷◌, ◌++◌}
use mathlib.Core.Logic.{⊎_elim}
use native.Mathlib.Omega.{arith}
use native.Mathlib.Nat.{le_antisymm, le_trans, mul-le-mul_left, mul-le-mul_right, mul_assoc, mul_comm, div-add-mod', mod-lt}
use lib.ListN.{length, take, drop}
use lib.Seq.{take-add}
use Rattle.search.specs.Lists.{sum_of, All}
use Rattle.search.proofs.Choice.{lt_or_le}
use Rattle.search.proofs.Lists.{sum_append, sum_bound, all_append, all_map}
use Rattle.table.specs.Code.Good.{GoodDistances}
use Rattle.arrivals.specs.Arrivals.{as_listed, repeated, sum_of_steps, δ, Best}
use Rattle.arrivals.specs.Code.Sums.{head_of, AddsUp}
use Rattle.arrivals.proofs.Blocks.{sum-cut, block}
use Rattle.arrivals.proofs.Lists.{rising, listed-none, repeated-lists, repeated-first}
use Rattle.arrivals.proofs.Sums.{δ-step, δ-by-steps, δ-each_way, δ-ways}
use Rattle.arrivals.proofs.Distances.{δ-steps, δ-above}

all_take : {A : Type 0} (P : A → Type 0) (n : ℕ) (l : List A) → All P l → All P (take n l)
all_take P zero l h = tt
all_take P (suc n) [] h = tt
all_take P (suc n) (a ∷ l) h = (h.0, all_take P n l h.1)

all_drop : {A : Type 0} (P : A → Type 0) (n : ℕ) (l : List A) → All P l → All P (drop n l)
all_drop P zero l h = h
all_drop P (suc n) [] h = tt
all_drop P (suc n) (a ∷ l) h = all_drop P n l h.1

module _ (ds : List ℕ) where
  abbrev Steps : List ℕ → Type 0
  Steps = All (λ j. (1 ≤ j) × (j ≤ length ds))

  abbrev in_all : List ℕ → ℕ
  in_all = sum_of (λ j. j)

  -- one step more is more in all
  some_more : (i : ℕ) (steps : List ℕ) → Steps steps → i < length steps → in_all (take i steps) < in_all (take (suc i) steps)
  unfolding sum_of
  some_more zero [] h l = absurd (omega arith)
  some_more (suc i) [] h l = absurd (omega arith)
  some_more zero (j ∷ steps) h l = omega (arith, h.0.0)
  some_more (suc i) (j ∷ steps) h l = omega (arith, some_more i steps h.1 (omega arith))

  more : (steps : List ℕ) → Steps steps → (n i : ℕ) → suc (n + i) ≤ length steps → in_all (take i steps) < in_all (take (suc (n + i)) steps)
  more steps h zero i l = let e : suc (0 + i) ≡ suc i = omega arith in omega (arith, some_more i steps h (omega arith), ap (λ k. in_all (take k steps)) e)
  more steps h (suc n) i l =
      let e : suc (n + i) ≡ suc n + i = omega arith in
      omega (arith, more steps h n i (omega arith), some_more (suc n + i) steps h l, ap (λ k. in_all (take k steps)) e)

  rises : (steps : List ℕ) → Steps steps → (i j : ℕ) → i < j → j ≤ length steps → in_all (take i steps) < in_all (take j steps)
  rises steps h i j l k =
      let n : ℕ = j - suc i in
      let e : suc (n + i) ≡ j = omega arith in
      omega (arith, more steps h n i (omega arith), ap (λ m. in_all (take m steps)) e)

  module _ {s : ℕ} (best : Best ds s) where
    -- no steps come to more than as many of s would
    worth : (steps : List ℕ) → Steps steps → sum_of_steps ds steps * s ≤ as_listed ds s * in_all steps
    unfolding sum_of
    worth [] h = omega arith
    worth (j ∷ steps) h = omega (arith, best.best j h.0.0 h.0.1, worth steps h.1)

    cheap : (x k : ℕ) → x * s ≤ as_listed ds s * (k * s) → x ≤ k * as_listed ds s
    cheap x k h = ⊎_elim
        (λ l. absurd (omega (arith, mul-le-mul_right s l, best.low, h, mul_comm (as_listed ds s) (k * s), mul_assoc k s (as_listed ds s), mul_comm s (as_listed ds s), mul_assoc k (as_listed ds s) s)))
        (λ l. l) (lt_or_le (k * as_listed ds s) x)

    -- of s steps or more, some can be replaced by steps of s, at no loss
    replaced : (steps : List ℕ) → Steps steps → s ≤ length steps → sum_of_steps ds steps ≤ as_listed ds s + δ ds (suc (in_all steps - s))
    replaced steps h long =
        let b = block s steps best.low long (rises steps h) in
        let i = b.0 in
        let j = b.1 in
        let k : ℕ = b.2 - 1 in
        let part : List ℕ = take (j - i) (drop i steps) in
        let left : List ℕ = take i steps ++ drop j steps in
        let whole : (f : ℕ → ℕ) → sum_of f steps ≡ sum_of f (take i steps) + sum_of f part + sum_of f (drop j steps) =
        λ f. let e : j ≡ i + (j - i) = omega (arith, b.3) in
        omega (arith, sum-cut f j steps, ap (λ n. sum_of f (take n steps)) e, ap (sum_of f) (take-add i (j - i) steps), sum_append f (take i steps) part) in
        let rest : (f : ℕ → ℕ) → sum_of f left ≡ sum_of f (take i steps) + sum_of f (drop j steps) = λ f. sum_append f (take i steps) (drop j steps) in
        let size : in_all part ≡ b.2 * s = omega (arith, whole (λ x. x), sum-cut (λ x. x) j steps, b.5) in
        let cost : sum_of_steps ds part ≤ b.2 * as_listed ds s =
        cheap (sum_of_steps ds part) b.2 (omega (arith, worth part (all_take _ (j - i) (drop i steps) (all_drop _ i steps h)), ap (λ n. as_listed ds s * n) size)) in
        let below : sum_of_steps ds left ≤ δ ds (suc (in_all left)) = δ-each_way ds left (all_append _ (take i steps) (drop j steps) (all_take _ i steps h) (all_drop _ j steps h)) in
        let one : b.2 ≡ suc k = omega (arith, b.4) in
        let e : k * s + in_all left ≡ in_all steps - s = omega (arith, whole (λ x. x), rest (λ x. x), size, ap (λ n. n * s) one) in
        omega (
          arith,
          whole (as_listed ds),
          rest (as_listed ds),
          cost,
          ap (λ n. n * as_listed ds s) one,
          below,
          δ-steps ds s k (in_all left) best.low best.high,
          ap (λ n. δ ds (suc n)) e,
        )

    -- past the head the last step can be one of s
    pub best-last : (m : ℕ) → head_of ds s < m → δ ds (suc m) ≡ as_listed ds s + δ ds (suc (m - s))
    best-last m h =
        let w = (δ-ways ds (le_trans best.low best.high) m).holds in
        let steps = w.0 in
        let long : s ≤ length steps = ⊎_elim
        (λ l. let k : length steps ≤ s - 1 = omega arith in
        absurd (omega (arith, w.1.whole, sum_bound (λ x. x) (length ds) steps (all_map (λ j p. p.1) steps w.1.each), mul-le-mul_right (length ds) k, h)))
        (λ l. l) (lt_or_le (length steps) s) in
        let room : s ≤ m = omega (arith, h, mul-le-mul_left (s - 1) (le_trans best.low best.high)) in
        let e : s + (m - s) ≡ m = omega (arith, room) in
        le_antisymm
        (omega (arith, w.2, replaced steps w.1.each long, ap (λ n. δ ds (suc (n - s))) w.1.whole))
        (omega (arith, δ-step ds s (m - s) best.low best.high, ap (λ n. δ ds (suc n)) e))

    -- so each step of s more adds its distance
    pub best-steps : (q m : ℕ) → head_of ds s < m + s → δ ds (suc (q * s + m)) ≡ q * as_listed ds s + δ ds (suc m)
    best-steps zero m h = let e : 0 * s + m ≡ m = omega arith in omega (arith, ap (λ n. δ ds (suc n)) e)
    best-steps (suc q) m h =
        let e : suc q * s + m - s ≡ q * s + m = omega arith in
        omega (arith, best-last (suc q * s + m) (omega (arith, h)), ap (λ n. δ ds (suc n)) e, best-steps q m h)

-- a list whose repetition adds up
module _ {ds : List ℕ} (good : GoodDistances ds) (up : AddsUp ds) where
  abbrev last : ℕ
  last = as_listed ds (length ds)

  -- any two steps
  both : (i j : ℕ) → 1 ≤ i → i ≤ length ds → 1 ≤ j → j ≤ length ds → as_listed ds i + as_listed ds j ≤ repeated ds (i + j + 1)
  both i j low high some few = ⊎_elim
      (λ h. let e : j + i + 1 ≡ i + j + 1 = omega arith in omega (arith, (up.with j some few).adds i low (omega arith), ap (repeated ds) e))
      (λ h. (up.with i low high).adds j some h)
      (lt_or_le i j)

  -- whole lists stand before any steps
  shifted : (q x : ℕ) → repeated ds (suc (q * length ds + x)) ≡ q * last + repeated ds (suc x)
  shifted q x =
      let p : ℕ = x / length ds in
      let y : ℕ = x % length ds in
      let e : p * length ds + y ≡ x = div-add-mod' x (length ds) in
      let u : y ≤ length ds = omega (arith, mod-lt x good.some) in
      let f : (q + p) * length ds + y ≡ q * length ds + x = omega arith in
      omega (arith, repeated-lists (rising good) p y u, repeated-lists (rising good) (q + p) y u, ap (λ n. repeated ds (suc n)) e, ap (λ n. repeated ds (suc n)) f)

  -- a step more is no more than the repetition has
  stepped : (j i : ℕ) → 1 ≤ j → j ≤ length ds → as_listed ds j + repeated ds (suc i) ≤ repeated ds (suc (j + i))
  stepped j i l h =
      let q : ℕ = i / length ds in
      let r : ℕ = i % length ds in
      let e : q * length ds + r ≡ i = div-add-mod' i (length ds) in
      let u : r < length ds = mod-lt i good.some in
      let f : q * length ds + (j + r) ≡ j + i = omega arith in
      omega (arith, repeated-lists (rising good) q r (omega arith), ap (λ n. repeated ds (suc n)) e, shifted q (j + r), ap (λ n. repeated ds (suc n)) f, together r (omega arith))
    where
      together : (r : ℕ) → r ≤ length ds → as_listed ds j + as_listed ds r ≤ repeated ds (suc (j + r))
      together r k = ⊎_elim
          (λ p. let e : j + r + 1 ≡ suc (j + r) = omega arith in omega (arith, both j r l h p k, ap (repeated ds) e))
          (λ z.
          let e : r ≡ 0 = omega arith in
          let f : j + r ≡ j = omega arith in
          omega (arith, ap (as_listed ds) e, listed-none ds, repeated-first (rising good) j h, ap (λ n. repeated ds (suc n)) f))
          (lt_or_le 0 r)

  -- is δ's
  pub adds-up-is : (n : ℕ) → δ ds n ≡ repeated ds n
  unfolding δ repeated
  adds-up-is zero = refl
  adds-up-is (suc m) = le_antisymm
      (δ-by-steps ds good.some (λ m x. x ≤ repeated ds (suc m)) zero-le (λ j i x l h less. omega (arith, less, stepped j i l h)) m)
      (δ-above good (suc m))
