-- A chain's windows are refused with 16 or 17 only. Assumes nothing.
use Prim.Native.Nat.{ℕ}
use native.Mathlib.Omega.{arith}
use mathlib.Core.Path.{◌≡◌}
use mathlib.Core.List.{List}
use mathlib.Core.Logic.{inl, inr}
use lib.Dec.{ltb}
use Rattle.std.specs.declared.option.Option.TheVariants.{Some, None}
use Rattle.std.specs.declared.result.Result.{Result}
use Rattle.search.proofs.Choice.{when_cases}
use Rattle.table.specs.Limits.{max_activations}
use Rattle.table.specs.declared.Row.{Row}
use Rattle.table.specs.declared.refusal.Refusal.{Refusal}
use Rattle.arrivals.specs.Arrivals.{δ}
use Rattle.segments.specs.View.{View}
use Rattle.windows.specs.Latency.{close_of, ends_with, windows_of, bound_of, figures_of}
use Rattle.windows.specs.Window.{Window, window_of}
use Rattle.windows.specs.declared.Windows.{Windows}
use Rattle.report_text.specs.Code.Writing.{Bounded}

windows-bounded : (demand : ℕ → ℕ → ℕ) (distance : ℕ → ℕ) (deadline : ℕ) → Bounded (figures_of (windows_of demand distance deadline))
unfolding windows_of
windows-bounded demand distance deadline =
    when_cases (λ (w : Result Windows Refusal). Bounded (figures_of w)) (ltb max_activations (close_of demand distance))
    (λ e. record { refused = λ n r. inr (cc) })
    (λ e. by (window_of (demand (close_of demand distance))))
  where
    by : (w : Window) → Bounded (figures_of (ends_with demand distance deadline (close_of demand distance) w))
    by (Some t) = record { refused = λ n r. absurd (let z : ◌≡◌ {A = ℕ} 0 1 = cc in omega arith) }
    by None = record { refused = λ n r. inl (cc) }

pub bounded : (b : Row) (others : List View) → Bounded (figures_of (bound_of δ b others))
unfolding bound_of
bounded b others = windows-bounded _ _ _
