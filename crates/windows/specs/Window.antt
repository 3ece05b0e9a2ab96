-- A window (01, 'Windows'): the least t in 1 to the horizon that equals its demand d(t), or none.
use Rattle.std.specs.Prelude.{ℕ, ◌≤◌, ◌≡◌, eqb, ltb}
use Rattle.search.specs.Choice.{◌when◌else◌}
use Rattle.search.specs.Find.{first}
use Rattle.table.specs.Limits.{horizon}
use Rattle.std.specs.declared.option.Option.{Option}
use Rattle.std.specs.declared.option.Option.TheVariants.{Some, None}

-- t is in 1 to the horizon and equals its demand, and no smaller one does
pub record Solution (d : ℕ → ℕ) (t : ℕ) : Type 0 where
  pub low : 1 ≤ t
  pub high : t ≤ horizon
  pub solves : t ≡ d t
  pub least : (s : ℕ) → 1 ≤ s → s ≡ d s → t ≤ s

-- a window, if there is one
abbrev pub Window : Type 0
Window = Option ℕ

-- the window: the first of 1, 2, .., horizon that equals its demand
abbrev pub within : ℕ → Window
within t = None when ltb horizon t else Some t

unfoldable pub window_of : (ℕ → ℕ) → Window
window_of d = within (first (λ t. eqb t (d t)) 1 horizon)
