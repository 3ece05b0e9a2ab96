-- What nothing refused before the figures says of them: they are within their limits. Assumes nothing.
use Prim.Native.Nat.{ℕ, zero, suc, ◌≤◌}
use mathlib.Core.Path.{◌≡◌, refl, ap}
use mathlib.Core.Bool.{Bool, true, false}
use mathlib.Core.List.{List}
use native.Mathlib.Omega.{arith}
use native.Mathlib.Numerals.{add-one}
use borrow.Author.Tests.{eqb-true, not-false, ltb-false}
use Rattle.search.specs.Choice.{◌when◌else◌}
use Rattle.table.specs.Limits.{max_run, horizon}
use Rattle.table.specs.declared.Row.{Row}
use Rattle.table.specs.Code.Good.{GoodRow}
use Rattle.arrivals.specs.Arrivals.{δ}
use Rattle.arrivals.proofs.Distances.{δ-one}
use Rattle.table.proofs.Firsts.{none_or}
use Rattle.table.specs.Record.{distances}
use Rattle.segments.specs.View.{View}
use Rattle.windows.specs.Demand.{demand_of}
use Rattle.windows.specs.Latency.{bound_of}
use Rattle.windows.specs.declared.Windows.{Windows}
use Rattle.std.specs.Prelude.{⊤}
use Rattle.std.specs.declared.result.Result.{Result}
use Rattle.std.specs.declared.result.Result.TheVariants.{Ok, Err}
use Rattle.table.specs.declared.refusal.Refusal.{Refusal}
use Rattle.table.specs.declared.refusal.Refusal.TheVariants.{BadRun, OverloadAsked}
use Rattle.windows.proofs.Least.{window-at}
use Rattle.windows.proofs.Latencies.{latency-near, late-few}
use Rattle.windows.proofs.Closing.{Closes, answer-closed}
use Rattle.misses.specs.Misses.{early_of}
use Rattle.misses.specs.Code.Held.{Asked}

-- each activation up to K starts within the window before it
starts-near : (demand : ℕ → ℕ → ℕ) {distance : ℕ → ℕ} → distance 1 ≡ 0 → {close t : ℕ} → Closes demand distance close t → (q : ℕ) → 1 ≤ q → q ≤ close → distance q ≤ horizon
starts-near demand {distance = distance} one {close = close} {t = t} c zero l h = elim l [ ]
starts-near demand one c (suc zero) l h = omega (arith, one)
starts-near demand {distance} one c (suc (suc q)) l h =
    let r = c.reach (suc q) (omega arith) (omega arith) in
    omega (arith, ap distance (add-one (suc q)), r.2, (window-at (demand (suc q)) r.0 r.1).high)

-- what does not refuse
ok_none : (n : Refusal) (r : Result ⊤ Refusal) (t : Bool) → (Err n when t else r) ≡ Ok tt → (t ≡ false) × (r ≡ Ok tt)
unfolding ◌when◌else◌
ok_none n r true e = let z : ◌≡◌ {A = ℕ} 0 1 = cc in absurd (omega arith)
ok_none n r false e = (refl, e)

pub asked : (b : Row) → GoodRow b → (views : List View) (k : ℕ) (w : Windows) → early_of b k ≡ Ok tt → bound_of δ b views ≡ Ok w → Asked b k w
unfolding early_of bound_of
asked b good views k w early e =
    let e1 = ok_none BadRun _ _ early in
    let e2 = ok_none OverloadAsked _ _ e1.1 in
    let run = none_or _ _ e1.0 in
    let demand = demand_of δ b views in
    let c = answer-closed demand (δ (distances b)) b.deadline e in
    record {
      typical = eqb-true b.overload 0 (not-false _ e2.0);
      low = ltb-false k 1 run.0;
      high = ltb-false max_run k run.1;
      few = c.closes.high;
      near = omega (arith, c.greatest, latency-near demand (δ (distances b)) w.figures.close);
      count = omega (arith, c.count, c.closes.high, late-few demand (δ (distances b)) b.deadline w.figures.close);
      end = (window-at (demand w.figures.close) _ c.closes.last).high;
      starts = starts-near demand (δ-one good.list) c.closes;
    }
