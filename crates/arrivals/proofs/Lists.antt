-- δ by whole lists and steps into the next: what the proofs of this crate see of δ's text, and no other crate's. Assumes nothing.
use Prim.Native.Nat.{ℕ, zero, suc, zero-le, ◌+◌, ◌*◌, ◌/◌, ◌%◌, ◌-◌, ◌≤◌, ◌<◌}
use mathlib.Core.Path.{◌≡◌, refl, ap, ap₂, sym, subst₂, ◌∙◌}
use mathlib.Core.List.{List}
use mathlib.Core.Logic.{⊎_elim}
use native.Mathlib.Omega.{arith}
use native.Mathlib.Numerals.{add-one}
use native.Mathlib.Nat.{eq-or-lt_of_le, div-add-mod', mod-lt}
use lib.ListN.{length, get_or}
use lib.Arith.{digits_div, digits_mod}
use Rattle.table.specs.Limits.{max_distance}
use Rattle.arrivals.specs.Arrivals.{as_listed, repeated}
use Rattle.table.specs.Code.Good.{GoodDistances}

-- no step has distance 0
pub listed-none : (ds : List ℕ) → as_listed ds 0 ≡ 0
unfolding as_listed
listed-none ds = refl

-- the definition in the code's shape
pub listed-at : (ds : List ℕ) (j : ℕ) → 0 < j → as_listed ds j ≡ get_or ds (j - 1) 0
unfolding as_listed
listed-at ds j h = let e : j ≡ suc (j - 1) = omega arith in ap (as_listed ds) e

-- n steps are the whole lists and the rest into which they are split, by a list's length as it was read
pub split-whole : (n : ℕ) {read l lists rest : ℕ} → 0 < l → read ≡ l → lists ≡ n / read → rest ≡ n % read → (lists * l + rest ≡ n) × (rest < l)
split-whole n {l = l} some e q r =
    (ap₂ (λ i j. i * l + j) (q ∙ ap (λ x. n / x) e) (r ∙ ap (λ x. n % x) e) ∙ div-add-mod' n l, omega (arith, r, ap (λ x. n % x) e, mod-lt n some))

-- what δ's laws ask of a list: it is not empty, does not fall, and its numbers are bounded
pub record Rising (most : ℕ) (ds : List ℕ) : Type 0 where
  pub some : 1 ≤ length ds
  pub rises : (j : ℕ) → j + 1 < length ds → get_or ds j 0 ≤ get_or ds (j + 1) 0
  pub near : (j : ℕ) → get_or ds j 0 ≤ most

pub rising : {ds : List ℕ} → GoodDistances ds → Rising max_distance ds
rising good = record { some = good.some; rises = good.rises; near = good.near }

pub last-above : {ds : List ℕ} → GoodDistances ds → 0 < as_listed ds (length ds)
last-above {ds} good = rw (listed-at ds (length ds) good.some) good.ends

module _ {most : ℕ} {ds : List ℕ} (list : Rising most ds) where
  pub listed-rises : (j : ℕ) → j < length ds → as_listed ds j ≤ as_listed ds (suc j)
  unfolding as_listed
  listed-rises zero h = zero-le
  listed-rises (suc j) h = rw add-one at (list.rises j (omega arith))

  pub listed-near : (j : ℕ) → as_listed ds j ≤ most
  unfolding as_listed
  listed-near zero = zero-le
  listed-near (suc j) = list.near j

  -- i whole lists and j steps more, j up to another whole list
  pub repeated-lists : (i j : ℕ) → j ≤ length ds → repeated ds (suc (i * length ds + j)) ≡ i * as_listed ds (length ds) + as_listed ds j
  unfolding repeated as_listed
  repeated-lists i j h =
      ⊎_elim
      (λ e. ap (λ (n : ℕ). repeated ds (suc n)) (omega arith) ∙ inside (suc i) 0 list.some ∙ omega (arith, ap (as_listed ds) e))
      (inside i j) (eq-or-lt_of_le h)
    where
      inside : (i j : ℕ) → j < length ds → repeated ds (suc (i * length ds + j)) ≡ i * as_listed ds (length ds) + as_listed ds j
      inside i j h = rw (digits_div i h, digits_mod i h)

  -- the same with the 1 that contracts have
  pub repeated-after : (i j : ℕ) → j ≤ length ds → repeated ds (i * length ds + j + 1) ≡ i * as_listed ds (length ds) + as_listed ds j
  repeated-after i j h = rw add-one (repeated-lists i j h)

  -- in the first list δ is as listed
  pub repeated-first : (j : ℕ) → j ≤ length ds → repeated ds (suc j) ≡ as_listed ds j
  repeated-first j h = ap (repeated ds) (omega arith) ∙ repeated-lists 0 j h ∙ omega arith

  -- in the first list, and in the second
  pub repeated_in_first : (m : ℕ) → m ≤ length ds → repeated ds (m + 1) ≡ as_listed ds m
  repeated_in_first m h = rw add-one (repeated-first m h)

  pub repeated_in_second : (m : ℕ) → length ds ≤ m → m ≤ 2 * length ds → repeated ds (m + 1) ≡ as_listed ds (length ds) + as_listed ds (m - length ds)
  repeated_in_second m h g =
      let e : m + 1 ≡ 1 * length ds + (m - length ds) + 1 = omega arith in
      ap (repeated ds) e ∙ repeated-after 1 (m - length ds) (omega arith) ∙ omega arith

  -- one activation more is one step within the list, after whole lists: what holds of each such step holds of δ's
  pub repeated-step : (P : ℕ → ℕ → Type 0) → ((x j : ℕ) → j < length ds → P (x + as_listed ds j) (x + as_listed ds (suc j)))
      → (n : ℕ) → P (repeated ds (suc n)) (repeated ds (suc (suc n)))
  repeated-step P f n =
      let i : ℕ = n / length ds in
      let j : ℕ = n % length ds in
      let e : i * length ds + j ≡ n = div-add-mod' n (length ds) in
      let u : j < length ds = mod-lt n list.some in
      subst₂ P (sym (repeated-lists i j (omega arith)) ∙ ap (repeated ds) (omega arith)) (sym (repeated-lists i (suc j) u) ∙ ap (repeated ds) (omega arith))
      (f (i * as_listed ds (length ds)) j u)

-- whole lists and the rest of the next, as they are read
pub read-lists : (ds : List ℕ) (i j : ℕ) {listed whole part : ℕ} → listed ≡ length ds → whole ≡ as_listed ds listed → part ≡ as_listed ds j
    → i * whole + part ≡ i * as_listed ds (length ds) + as_listed ds j
read-lists ds i j long whole part = ap₂ (λ w p. i * w + p) (whole ∙ ap (as_listed ds) long) part
