-- Bad goes by cost: a set that costs more has no shorter windows, so costs only get worse. It goes by what a demand has to be.
-- Assumes nothing.
use Prim.Native.Nat.{ℕ, ◌+◌, ◌≤◌}
use mathlib.Core.Path.{◌≡◌, refl, ap, sym, fun_ext, ◌∙◌}
use mathlib.Core.Bool.{true}
use native.Mathlib.Omega.{arith}
use native.Mathlib.Nat.{le_refl, le_trans}
use borrow.Author.Tests.{lt-ltb, ltb-true}
use Rattle.arrivals.specs.Arrivals.{δ}
use Rattle.windows.specs.Window.{Window, window_of}
use Rattle.windows.specs.Latency.{longer, any_over}
use Rattle.windows.specs.Code.Load.{Load, row_in, own_of, over_in, dearer, Sound}
use Rattle.std.specs.declared.option.Option.TheVariants.{Some, None}
use Rattle.windows.proofs.Least.{window-less}
use Rattle.windows.proofs.Growth.{Growing, load-growing}
use Rattle.windows.proofs.Joining.{dearer-demand}
use Rattle.windows.proofs.Sweeps.{some_one, some-found}
use Rattle.windows.proofs.Easing.{Easier}
use Rattle.misses.specs.Bad.{with_cost, over}
use Rattle.misses.specs.Code.Settling.{over_with}

-- with a cost more a demand is one still
pub cost-growing : (demand : ℕ → ℕ → ℕ) → Growing demand → (c : ℕ) → Growing (with_cost demand c)
cost-growing demand growing c = record {
  grows = λ q h. record { some = λ t l. omega (arith, (growing.grows q h).some t l); mono = λ s t l. omega (arith, (growing.grows q h).mono s t l) };
  more = λ q t. omega (arith, growing.more q t);
}

-- what is bad stays bad with more cost, and where the analysis is no easier and goes on as far
module _ {demand harder : ℕ → ℕ → ℕ} {distance nearer : ℕ → ℕ} {deadline earlier : ℕ} (easier : Easier demand harder distance nearer deadline earlier) (c e : ℕ) (more : c ≤ e) where
  longer-mono : (q : ℕ) → 1 ≤ q → longer (window_of (with_cost demand c q)) (distance q + deadline) ≡ true → longer (window_of (with_cost harder e q)) (nearer q + earlier) ≡ true
  longer-mono q h f = go (window_of (with_cost harder e q)) refl
    where
      go : (w : Window) → window_of (with_cost harder e q) ≡ w → longer w (nearer q + earlier) ≡ true
      go (Some s) g =
          let r = window-less (with_cost demand c q) ((cost-growing demand easier.grows c).grows q h) (with_cost harder e q) (λ t. omega (arith, easier.demands q t)) s g in
          let past = ltb-true (distance q + deadline) r.0 (sym (ap (λ w. longer w (distance q + deadline)) r.1) ∙ f) in
          lt-ltb (nearer q + earlier) s (omega (arith, past, r.2, easier.apart q, easier.deadlines))
      go None g = refl

  pub over-mono : (close far : ℕ) → close ≤ far → over demand distance deadline close c ≡ true → over harder nearer earlier far e ≡ true
  unfolding over
  over-mono close far h f =
      let r = some-found (λ q. longer (window_of (with_cost demand c q)) (distance q + deadline)) close f in
      some_one (λ q. longer (window_of (with_cost harder e q)) (nearer q + earlier)) far r.0 r.1 (le_trans r.2 h) (longer-mono r.0 r.1 r.3)

-- a load with a cost more
pub dearer-over : (l : Load) (close cost : ℕ) → over_in (dearer l cost) close ≡ over_with l close cost
unfolding over
dearer-over l close cost =
    ap (λ d. any_over d (δ (own_of l)) (row_in l).deadline close) (fun_ext (λ q. fun_ext (λ t. dearer-demand l cost q t)))

-- and so costs only get worse
pub load_worsens : (l : Load) → Sound l → (close c e : ℕ) → c ≤ e → over_with l close c ≡ true → over_with l close e ≡ true
load_worsens l sound close c e h =
    over-mono (record { grows = load-growing l sound; demands = λ q t. le_refl _; apart = λ n. le_refl _; deadlines = le_refl _ }) c e h close close (le_refl close)
