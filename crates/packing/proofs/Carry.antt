-- Packings carried over: a function of masks that turns bad combinations into bad ones, and fits the room, turns a packing into
-- one with as many uses. From it come the laws that callers use: what the most uses hang on, when they cannot fall, and that a
-- renumbering of the active segments moves nothing. Assumes nothing.
use Prim.Native.Nat.{ℕ, ◌*◌, ◌≤◌, ◌<◌}
use mathlib.Core.Path.{◌≡◌, ap, subst, ◌∙◌}
use mathlib.Core.Bool.{Bool, true}
use mathlib.Core.Logic.{◌⊎◌, inl, inr}
use native.Mathlib.Omega.{arith}
use lib.Dec.{eqb}
use borrow.Author.Tests.{eqb-true}
use Rattle.search.proofs.Choice.{lt_or_le, when_cases}
use Rattle.packing.specs.Packing.{bit, sum_to, usable, Packing, Reached}
use Rattle.packing.specs.Most.{most_uses}
use Rattle.packing.proofs.Sums.{is, sum_to_ext, sum_to_scale, sum_to_swap, sum_to-is, sum_to-some}
use Rattle.packing.proofs.Most.{most-greatest}

-- how often x is used where each use of m, of those below n, becomes one of `turn m`
abbrev pub turned : ℕ → (ℕ → ℕ) → (ℕ → ℕ) → ℕ → ℕ
turned n turn u x = sum_to n (λ m. u m * is (turn m) x)

-- what is used was some m
pub turned-some : (n : ℕ) (turn u : ℕ → ℕ) (x : ℕ) → 0 < turned n turn u x → (m : ℕ) × (m < n) × (0 < u m) × (turn m ≡ x)
turned-some n turn u x h =
    let s = sum_to-some n (λ m. u m * is (turn m) x) h in
    let t = used (u s.0) (turn s.0) x s.2 in
    (s.0, s.1, t.0, t.1)
  where
    used : (v y x : ℕ) → 0 < v * is y x → (0 < v) × (y ≡ x)
    used v y x = when_cases (λ r. 0 < v * r → (0 < v) × (y ≡ x)) (eqb y x) (λ e h. (omega (arith, h), eqb-true y x e)) (λ e h. absurd (omega (arith, h)))

module _ (n k : ℕ) (turn u : ℕ → ℕ) (h : (m : ℕ) → m < n → 0 < u m → turn m < k) where
  -- what the turned uses come to, use by use
  pub turned-sum : (g : ℕ → ℕ) → sum_to k (λ x. turned n turn u x * g x) ≡ sum_to n (λ m. u m * g (turn m))
  turned-sum g =
      sum_to_ext k (λ x. turned n turn u x * g x) (λ x. sum_to n (λ m. u m * (is (turn m) x * g x))) (λ x l. out x)
      ∙ sum_to_swap k n (λ x m. u m * (is (turn m) x * g x))
      ∙ sum_to_ext n (λ m. sum_to k (λ x. u m * (is (turn m) x * g x))) (λ m. u m * g (turn m)) (λ m l. sum_to_scale k (u m) (λ x. is (turn m) x * g x) ∙ each m l (lt_or_le 0 (u m)))
    where
      out : (x : ℕ) → turned n turn u x * g x ≡ sum_to n (λ m. u m * (is (turn m) x * g x))
      out x = omega (arith, sum_to_scale n (g x) (λ m. u m * is (turn m) x), sum_to_ext n (λ m. g x * (u m * is (turn m) x)) (λ m. u m * (is (turn m) x * g x)) (λ m l. omega arith))

      each : (m : ℕ) → m < n → (0 < u m) ⊎ (u m ≤ 0) → u m * sum_to k (λ x. is (turn m) x * g x) ≡ u m * g (turn m)
      each m l (inl s) = ap (λ y. u m * y) (sum_to-is k (turn m) g (h m l s))
      each m l (inr s) = let e : u m ≡ 0 = omega arith in rw e (omega arith)

  pub turned-total : sum_to k (turned n turn u) ≡ sum_to n u
  turned-total = sum_to_ext k (turned n turn u) (λ x. turned n turn u x * 1) (λ x l. omega arith) ∙ turned-sum (λ x. 1) ∙ sum_to_ext n (λ m. u m * 1) u (λ m l. omega arith)

-- a mask function that turns what is bad into what is worse, and keeps within the room there
pub record Carries (bad worse : ℕ → Bool) (room more : ℕ → ℕ) : Type 0 where
  pub turn : ℕ → ℕ
  pub inside : (m : ℕ) → m < 64 → usable bad m ≡ true → turn m < 64
  pub bads : (m : ℕ) → m < 64 → usable bad m ≡ true → usable worse (turn m) ≡ true
  pub within : (u : ℕ → ℕ) → Packing bad room u → (i : ℕ) → i < 6 → sum_to 64 (λ m. u m * bit i (turn m)) ≤ more i

module _ {bad worse : ℕ → Bool} {room more : ℕ → ℕ} (c : Carries bad worse room more) where
  pub carried : {n : ℕ} → Reached bad room n → Reached worse more n
  carried r =
      let u = r.uses in
      let inside : (m : ℕ) → m < 64 → 0 < u m → c.turn m < 64 = λ m l s. c.inside m l (r.packing.only m l s) in
      record {
        uses = turned 64 c.turn u;
        packing = record {
          only = λ x l h.
              let s = turned-some 64 c.turn u x h in
              subst (λ y. usable worse y ≡ true) s.3 (c.bads s.0 s.1 (r.packing.only s.0 s.1 s.2));
          within = λ i l. omega (arith, turned-sum 64 64 c.turn u inside (bit i), c.within u r.packing i l);
        };
        total = turned-total 64 64 c.turn u inside ∙ r.total;
      }

  -- the most uses cannot fall
  pub carries-most : most_uses bad room ≤ most_uses worse more
  carries-most = (most-greatest worse more).above (most_uses bad room) (carried (most-greatest bad room).holds)
