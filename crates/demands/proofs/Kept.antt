-- A chain in the other form has the same figures. Assumes nothing.
use Prim.Native.Nat.{ℕ, zero, suc, ◌+◌, ◌*◌, ◌/◌, ◌%◌, ◌-◌, ◌≤◌, ◌<◌}
use mathlib.Core.Path.{◌≡◌, refl, ap, sym, fun_ext, ◌∙◌}
use mathlib.Core.Bool.{Bool, true, false, ◌&&◌}
use mathlib.Core.List.{List, [], ◌∷◌, map}
use mathlib.Core.Logic.{⊎_elim}
use native.Mathlib.Omega.{arith}
use native.Mathlib.Nat.{mul_comm, mul_assoc, add-mul, div-add-mod', mod-lt}
use lib.Dec.{eqb}
use borrow.Author.Tests.{eq-eqb, ne_eqb}
use Rattle.std.specs.Prelude.{⊤}
use Rattle.std.specs.declared.result.Result.{Result}
use Rattle.std.specs.declared.result.Result.TheVariants.{Ok, Err}
use Rattle.search.specs.Choice.{◌when◌else◌}
use Rattle.search.proofs.Choice.{when_yes, when_no, lt_or_le}
use Rattle.table.specs.Record.{gap_form}
use Rattle.table.specs.Code.Good.{GoodRow}
use Rattle.table.specs.declared.Row.{Row}
use Rattle.table.specs.declared.refusal.Refusal.{Refusal}
use Rattle.table.proofs.Lists.{length-spaced, spaced-at}
use Rattle.arrivals.specs.Arrivals.{as_listed, δ, largest, unknown, repeated}
use Rattle.arrivals.proofs.Rows.{largest-by-gap, largest-by-list}
use Rattle.segments.specs.View.{View, view_of}
use Rattle.windows.specs.Demand.{counted_part, demand_of}
use Rattle.windows.specs.Latency.{bound_of}
use Rattle.windows.specs.declared.Windows.{Windows}
use Rattle.misses.specs.Overloads.{Overload, overloads, pieces_of}
use Rattle.misses.specs.Bad.{Test, by_windows, bad}
use Rattle.misses.specs.Sieve.{by_sieve}
use Rattle.misses.specs.Misses.{early_of, bad_of, room_of, packing_figure, missed_of, by_figures, by_bound, unless_early, tested_beside}
use Rattle.converting.specs.Forms.{multiples, with_largest, converted}
use Rattle.converting.proofs.Goods.{largests-all}
use Rattle.converting.specs.declared.To.{To}
use Rattle.converting.specs.declared.To.TheVariants.{Largest, Gap}

-- what no figure but the largest distance reads
pub view_kept : (to : To) (a b : Row) → view_of (converted to a) (converted to b) ≡ view_of a b
unfolding view_of
view_kept Largest a b = refl
view_kept Gap a b = refl

pub bound-kept : (to : To) (b : Row) (views : List View) → bound_of δ (converted to b) views ≡ bound_of δ b views
unfolding bound_of demand_of counted_part
bound-kept Largest b views = refl
bound-kept Gap b views = refl

pub windows-kept : (to : To) (b : Row) (views : List View) (close cost : ℕ) → by_windows (converted to b) views close cost ≡ by_windows b views close cost
unfolding demand_of counted_part
windows-kept Largest b views close cost = refl
windows-kept Gap b views close cost = refl

pub sieve_kept : (to : To) (b : Row) (views : List View) (close cost : ℕ) → by_sieve (converted to b) views close cost ≡ by_sieve b views close cost
unfolding demand_of counted_part
sieve_kept Largest b views close cost = refl
sieve_kept Gap b views close cost = refl

pub overloads-kept : (to : To) (b : Row) (l : List Row) → overloads (converted to b) (map (converted to) l) ≡ overloads b l
unfolding overloads ◌when◌else◌
overloads-kept to b [] = refl
overloads-kept Largest b (a ∷ l) = rw (overloads-kept Largest b l)
overloads-kept Gap b (a ∷ l) = rw (overloads-kept Gap b l)

-- the multiples of a gap go on as multiples of it
multiple-listed : (g n j : ℕ) → j ≤ n → as_listed (multiples g n) j ≡ j * g
unfolding as_listed
multiple-listed g n zero h = omega arith
multiple-listed g n (suc j) h = spaced-at (λ m. m) g n j g h ∙ omega (arith, mul_comm g j)

repeated-multiples : (g n k : ℕ) → 0 < n → repeated (multiples g n) k ≡ (k - 1) * g
unfolding repeated
repeated-multiples g n zero h = omega arith
repeated-multiples g n (suc m) h =
    let l = length-spaced (λ (x : ℕ). x) g n g in
    let e : m / n * n + m % n ≡ m = div-add-mod' m n in
    let u : m % n < n = mod-lt m h in
    let one : suc m - 1 ≡ m = omega arith in
    rw (l, multiple-listed g n n (omega arith), multiple-listed g n (m % n) (omega (arith, u)), one)
    (ap (λ x. x + m % n * g) (sym (mul_assoc (m / n) n g)) ∙ sym (add-mul (m / n * n) (m % n) g) ∙ ap (λ x. x * g) e)

-- a chain with a gap has the same largest distance by its multiples, and it is known alike
module _ {r : Row} (good : GoodRow r) (form : r.form ≡ gap_form) where
  plain : r.flag ≡ 1 → ⊥
  plain e = omega (arith, e, good.flag_form form)

  pub largest-kept : (k : ℕ) → largest (with_largest r) k ≡ largest r k
  unfolding ◌when◌else◌
  largest-kept k = ⊎_elim
      (λ h. largest-by-list (with_largest r) k (when_no {A = ℕ} 0 1 (ne_eqb r.gap 0 (λ z. omega (arith, z, h)))) ∙ ap (λ l. repeated l k) (largests-all good h)
      ∙ repeated-multiples r.gap r.listed k (omega (arith, good.listed, good.list.some)) ∙ sym (largest-by-gap r k plain))
      (λ h. let e : r.gap ≡ 0 = omega (arith, h) in
      largest-by-gap (with_largest r) k (λ f. omega (arith, f, when_yes {A = ℕ} 0 1 (eq-eqb r.gap 0 e))) ∙ ap (λ g. (k - 1) * g) (sym e) ∙ sym (largest-by-gap r k plain))
      (lt_or_le 0 r.gap)

  pub unknown-kept : unknown (with_largest r) ≡ unknown r
  unfolding unknown ◌when◌else◌
  unknown-kept = rw (good.flag_form form) (by (eqb r.gap 0))
    where
      by : (b : Bool) → (eqb 0 0 && eqb (0 when b else 1) 0) ≡ (b && eqb 0 0)
      by true = refl
      by false = refl

-- so every answer of a miss query stays, by any test of costs that stays
module _ (test : Test) (to : To) (b : Row) (views : List View) (os : List Overload) (k : ℕ)
    (same_test : (close cost : ℕ) → test (converted to b) views close cost ≡ test b views close cost)
    (same-largest : largest (converted to b) k ≡ largest b k) (same-unknown : unknown (converted to b) ≡ unknown b) where
  same-overload : (to : To) → (converted to b).overload ≡ b.overload
  same-overload Largest = refl
  same-overload Gap = refl

  early-kept : early_of (converted to b) k ≡ early_of b k
  unfolding early_of
  early-kept = rw (same-unknown, same-overload to)

  tests : test (converted to b) views ≡ test b views
  tests = fun_ext (λ close. fun_ext (λ cost. same_test close cost))

  bads : (close : ℕ) → bad_of test (converted to b) views os close ≡ bad_of test b views os close
  unfolding bad_of
  bads close = fun_ext (λ m. ap (λ f. bad (f close) (pieces_of os) m) tests)

  figures-kept : (close latency late last : ℕ) → by_figures δ test (converted to b) views os k close latency late last ≡ by_figures δ test b views os k close latency late last
  unfolding by_figures missed_of packing_figure room_of
  figures-kept close latency late last = rw (bads close, same-largest)

  answer-kept : (r : Result Windows Refusal) → by_bound δ test (converted to b) views os k r ≡ by_bound δ test b views os k r
  answer-kept (Ok w) = figures-kept w.figures.close w.figures.latency w.figures.late w.last
  answer-kept (Err n) = refl

  unless-kept : (r : Result ⊤ Refusal) → unless_early δ test (converted to b) views os k r ≡ unless_early δ test b views os k r
  unless-kept (Ok u) = ap (by_bound δ test (converted to b) views os k) (bound-kept to b views) ∙ answer-kept (bound_of δ b views)
  unless-kept (Err n) = refl

  pub tested-kept : tested_beside δ test (converted to b) views os k ≡ tested_beside δ test b views os k
  unfolding tested_beside
  tested-kept = ap (unless_early δ test (converted to b) views os k) early-kept ∙ unless-kept (early_of b k)
