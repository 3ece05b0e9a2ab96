-- Laws of 01's rule: it starts at 0, goes on after the list as that says, never falls, and passes every bound. Assumes nothing.
use Prim.Native.Nat.{ℕ, zero, suc, zero-le, ◌+◌, ◌*◌, ◌/◌, ◌%◌, ◌≤◌, ◌<◌}
use mathlib.Core.Path.{◌≡◌, ap, ◌∙◌}
use mathlib.Core.List.{List}
use mathlib.Core.Logic.{⊎_elim}
use native.Mathlib.Omega.{arith}
use native.Mathlib.Nat.{mul-le-mul_left, le-mul_of_pos_right, le_of_eq, le_trans, le_refl, le_of_suc-le-suc, eq-or-lt_of_le, div-add-mod', mod-lt}
use lib.ListN.{length, get_or}
use Rattle.arrivals.specs.Arrivals.{as_listed, repeated}
use Rattle.table.specs.Code.Good.{GoodDistances}
use Rattle.arrivals.proofs.Rules.{Lawful}
use Rattle.arrivals.proofs.Lists.{Rising, rising, listed-rises, listed-near, last-above, repeated-lists, repeated-first, repeated-step}

-- of any list that does not fall
module _ {most : ℕ} {ds : List ℕ} (list : Rising most ds) where
  -- δ(1) = 0
  pub repeated-start : repeated ds 1 ≡ 0
  unfolding as_listed
  repeated-start = repeated-first list 0 zero-le

  -- the listed distances are δ(2), δ(3), ..
  pub repeated-listed : (j : ℕ) → j < length ds → repeated ds (j + 2) ≡ get_or ds j 0
  unfolding as_listed
  repeated-listed j h = ap (repeated ds) (omega arith) ∙ repeated-first list (suc j) h

  -- 01's rule, as it stands there
  pub repeated-rule : (i j : ℕ) → j < length ds → repeated ds (1 + i * length ds + j) ≡ i * repeated ds (length ds + 1) + repeated ds (1 + j)
  repeated-rule i j h =
      let last : repeated ds (length ds + 1) ≡ as_listed ds (length ds) = ap (repeated ds) (omega arith) ∙ repeated-first list (length ds) (le_refl _) in
      let part : repeated ds (1 + j) ≡ as_listed ds j = ap (repeated ds) (omega arith) ∙ repeated-first list j (omega arith) in
      rw (last, part) (ap (repeated ds) (omega arith) ∙ repeated-lists list i j (omega arith))

  -- δ never falls
  repeated-next : (n : ℕ) → repeated ds n ≤ repeated ds (suc n)
  unfolding repeated
  repeated-next zero = zero-le
  repeated-next (suc n) = repeated-step list ◌≤◌ (λ x j u. omega (arith, listed-rises list j u)) n

  pub repeated-rises : (m n : ℕ) → m ≤ n → repeated ds m ≤ repeated ds n
  repeated-rises m zero h = le_of_eq (ap (repeated ds) (omega arith))
  repeated-rises m (suc n) h =
      ⊎_elim (λ e. le_of_eq (ap (repeated ds) e)) (λ g. le_trans (repeated-rises m n (le_of_suc-le-suc g)) (repeated-next n)) (eq-or-lt_of_le h)

  -- δ(n) is at most n times the bound
  pub repeated-bounded : (n : ℕ) → repeated ds n ≤ n * most
  unfolding repeated
  repeated-bounded zero = zero-le
  repeated-bounded (suc zero) = omega (arith, repeated-start)
  repeated-bounded (suc (suc n)) =
      omega (arith, repeated-bounded (suc n), repeated-step list (λ a b. b ≤ a + most) (λ x j u. omega (arith, listed-near list (suc j))) n)

-- of a chain's distances
module _ {ds : List ℕ} (good : GoodDistances ds) where
  -- no n above L·t has δ(n) < t
  pub repeated-reach : (n t : ℕ) → repeated ds n < t → n ≤ length ds * t
  unfolding repeated
  repeated-reach zero t h = zero-le
  repeated-reach (suc m) t h =
      let e : m / length ds * length ds + m % length ds ≡ m = div-add-mod' m (length ds) in
      let u : m % length ds < length ds = mod-lt m good.some in
      let a : suc (m / length ds) ≤ t = omega (arith, le-mul_of_pos_right (m / length ds) (last-above good)) in
      omega (arith, mul-le-mul_left (length ds) a)

  pub repeated-lawful : Lawful repeated ds
  repeated-lawful = record { one = repeated-start (rising good); rises = repeated-rises (rising good); reach = repeated-reach }
