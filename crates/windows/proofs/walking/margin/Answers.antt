-- `margin` meets its contract: both numbers are far below the sign bit, so each is itself as a signed number, and their difference fits.
use mathlib.Core.Path.{◌≡◌, ap₂, sym, subst₂, ◌∙◌}
use lib.IntN.{pos, ◌-ℤ◌}
use mir.Val.{SFits, to_z}
use mir.Syntax.{w32}
use mir.Facts.{to_z_pos, to_z-of_z}
use native.Mathlib.Omega.{arith}
use Rattle.windows.proofs.Margins.{margin-fits}
use Rattle.windows.proofs.walking.margin.Goals as goal
use Rattle.windows.proofs.walking.margin.Goals.{Start}

-- each is itself
deadline-is : (c : Start) → to_z w32 c.args.deadline ≡ pos c.args.deadline
deadline-is c = to_z_pos w32 (omega (arith, c.requires.0))

latency-is : (c : Start) → to_z w32 c.args.latency ≡ pos c.args.latency
latency-is c = to_z_pos w32 (omega (arith, c.requires.1))

pub overflow_sub-result : goal.overflow_sub-result
overflow_sub-result c = subst₂ (λ x y. SFits w32 (x -ℤ y)) (sym (deadline-is c)) (sym (latency-is c))
    (margin-fits c.args.deadline c.args.latency c.requires.0 c.requires.1)

pub returns : goal.returns
returns c = to_z-of_z (overflow_sub-result c) ∙ ap₂ (λ x y. x -ℤ y) (deadline-is c) (latency-is c)
