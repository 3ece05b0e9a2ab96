-- Why a cut is right: none of the first n kept combinations weighs less than the floor d, so where the room weighs too little for
-- so many uses there are none. Assumes nothing.
use Prim.Native.Nat.{ℕ, suc, ◌+◌, ◌-◌, ◌*◌, ◌/◌, ◌≤◌, ◌<◌, min}
use mathlib.Core.Path.{◌≡◌, ap}
use mathlib.Core.List.{List}
use mathlib.Core.Logic.{⊎_elim}
use native.Mathlib.Omega.{arith}
use native.Mathlib.Nat.{eq-or-lt_of_le, mul-le-mul_left, le-div_iff_mul-le}
use lib.ListN.{get_or}
use Rattle.packing.specs.Packing.{bit, sum_to}
use Rattle.packing.specs.Code.Engine.{nth, weight, Floor, Packed, Lowers}
use Rattle.packing.proofs.Sums.{sum_to_ext}
use Rattle.packing.proofs.Linear.{all_weigh, each_weighs}

-- a weight goes by the amounts
pub weight_ext : (shares : List ℕ) (v : ℕ) (a b : ℕ → ℕ) → ((i : ℕ) → i < 6 → a i ≡ b i) → weight shares v a ≡ weight shares v b
unfolding weight
weight_ext shares v a b e = sum_to_ext 6 _ _ (λ i l. ap (λ x. get_or shares (v * 6 + i) 0 * x) (e i l))

module _ {kept shares : List ℕ} where
  -- of no combinations
  pub floor_start : (v d : ℕ) → Floor kept shares 0 v d
  floor_start v d = record { least = λ j l. absurd (omega arith) }

  -- nothing weighs less than 0
  pub floor_none : (n v : ℕ) → Floor kept shares n v 0
  floor_none n v = record { least = λ j l. omega arith }

  -- one combination more
  pub floor_on : {n v d r : ℕ} → Floor kept shares n v d → r ≤ d → r ≤ weight shares v (λ i. bit i (nth kept n)) → Floor kept shares (n + 1) v r
  floor_on {n} {v} {d} {r} f l h = record {
    least = λ j s. ⊎_elim
        (λ e. omega (arith, h, ap (λ y. weight shares v (λ i. bit i (nth kept y))) e))
        (λ t. omega (arith, f.least j t))
        (eq-or-lt_of_le (let t : j ≤ n = omega arith in t));
  }

-- what the room weighs, for uses u of the first n kept combinations, of which none weighs less than d
module _ (kept shares : List ℕ) (n v d : ℕ) (f : Floor kept shares n v d) (room u : ℕ → ℕ) where
  pub weighs_all : Packed kept n room u → d * sum_to n u ≤ weight shares v room
  unfolding weight
  weighs_all p =
      let a = each_weighs n (nth kept) u (λ i. get_or shares (v * 6 + i) 0) d (λ j l s. f.least j l) in
      let b = all_weigh n (nth kept) u (λ i. get_or shares (v * 6 + i) 0) room p.within in
      omega (arith, a, b)

  -- and of one more
  pub weighs_more : Packed kept (suc n) room u → d * sum_to n u + u n * weight shares v (λ i. bit i (nth kept n)) ≤ weight shares v room
  unfolding weight sum_to
  weighs_more p =
      let a = each_weighs n (nth kept) u (λ i. get_or shares (v * 6 + i) 0) d (λ j l s. f.least j l) in
      let b = all_weigh (suc n) (nth kept) u (λ i. get_or shares (v * 6 + i) 0) room p.within in
      omega (arith, a, b)

-- a lower ceiling: d uses for each use weigh no more than the room
pub ceiling-low : {kept shares : List ℕ} {n v d r all : ℕ} {room : ℕ → ℕ} → Floor kept shares n v d → all ≡ weight shares v room → 0 < d
    → Lowers kept n room r (min r (all / d))
ceiling-low {kept} {shares} {n} {v} {d} {r} {all} {room} f e some = record {
  lower = λ limit c. record {
    few = omega (arith, c.few);
    bound = λ k m h.
        let w = weighs_all kept shares n v d f room h.uses h.packed in
        let t : k * d ≤ all = omega (arith, ap (λ y. d * y) h.total) in
        let q : k ≤ all / d = (le-div_iff_mul-le some).1 t in
        omega (arith, c.bound k m h);
  };
}

-- uses of the kept combination `last` that the weight of the room rules out, where the first last + 1 have `need` uses in all
module _ {kept shares : List ℕ} {last v d w all need : ℕ} {room : ℕ → ℕ} (f : Floor kept shares last v d)
    (e : w ≡ weight shares v (λ i. bit i (nth kept last))) (g : all ≡ weight shares v room) (u : ℕ → ℕ)
    (p : Packed kept (suc last) room u) (t : sum_to (suc last) u ≡ need) where
  -- those that come before weigh d each at least
  weighed : d * sum_to last u + u last * w ≤ all
  weighed = rw (e, g) (weighs_more kept shares last v d f room u p)

  together : (sum_to last u + u last) * d ≡ need * d
  unfolding sum_to
  together = ap (λ y. y * d) t

  pub cut-none : d ≤ w → all < need * d → ⊥
  cut-none l h = omega (arith, together, weighed, mul-le-mul_left (u last) l)

  pub cut-above : d < w → need * d ≤ all → u last < (all - need * d) / (w - d) + 1
  cut-above l h =
      let some : 0 < w - d = omega arith in
      let more : w ≡ d + (w - d) = omega arith in
      let y : u last * (w - d) ≤ all - need * d = omega (arith, together, weighed, ap (λ z. u last * z) more) in
      let z : u last ≤ (all - need * d) / (w - d) = (le-div_iff_mul-le some).1 y in
      omega arith
