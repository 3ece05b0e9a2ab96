-- By the form asked, and by the gap.
use mathlib.Core.Path.{◌≡◌, refl, ap, ◌∙◌}
use mathlib.Core.Bool.{Bool, true, false, not}
use lib.Dec.{eqb}
use mir.Val.{bool_byte}
use Rattle.search.specs.Choice.{◌when◌else◌}
use Rattle.table.specs.Record.{row_at}
use Rattle.converting.proofs.forms.flag_in.Goals as goal

none-or-one : (b : Bool) → bool_byte (not b) ≡ (0 when b else 1)
unfolding ◌when◌else◌
none-or-one true = refl
none-or-one false = refl

pub returns-in-Largest : goal.returns-in-Largest
unfolding row_at
returns-in-Largest c = rw c.in-Largest.is (c.from.ensures ∙ ap (λ g. bool_byte (not (eqb g 0))) c.gap_at.ensures ∙ none-or-one _)
