-- A truth is 1 or 0.
use mathlib.Core.Path.{◌≡◌, refl, ◌∙◌}
use mathlib.Core.Bool.{Bool, true, false}
use mir.Val.{bool_byte}
use Rattle.search.specs.Choice.{◌when◌else◌}
use Rattle.salvaging.proofs.put.counted.Goals as goal

one-or-none : (b : Bool) → bool_byte b ≡ (1 when b else 0)
unfolding ◌when◌else◌
one-or-none true = refl
one-or-none false = refl

pub returns : goal.returns
returns c = c.from.ensures ∙ one-or-none _
