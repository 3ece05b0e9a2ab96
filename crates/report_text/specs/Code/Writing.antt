-- The lines of an accepted table.
use Rattle.std.specs.Prelude.{ℕ, zero, suc, ◌≡◌, ◌⊎◌, List, [], ◌++◌}
use Rattle.std.specs.declared.result.Result.TheVariants.{Err}
use Rattle.table.specs.declared.refusal.Refusal.{Refusal}
use Rattle.table.specs.declared.refusal.Refusal.TheVariants.{PastHorizon, StillOpen}
use Rattle.table.specs.Find.{row_of}
use Rattle.table.specs.declared.Table.{Table}
use Rattle.arrivals.specs.Arrivals.{δ}
use Rattle.windows.specs.Latency.{Answer as Latency, bound_at, figures_of}
use Rattle.misses.specs.Misses.{misses_at}
use Rattle.report_text.specs.Report.{miss_run, line_text}

-- a latency answer over an accepted table is refused with 16 or 17 only
pub record Bounded (latency : Latency) : Type 0 where
  pub refused : (n : Refusal) → latency ≡ Err n → (n ≡ PastHorizon) ⊎ (n ≡ StillOpen)

-- the line of a chain of a table, by its number, and the lines of the first n chains
abbrev pub line_in : Table → ℕ → List ℕ
line_in t chain = line_text (row_of t chain).id (figures_of (bound_at δ t chain)) (misses_at t chain miss_run)

unfoldable pub lines_in : Table → ℕ → List ℕ
lines_in t zero = []
lines_in t (suc n) = lines_in t n ++ line_in t n
