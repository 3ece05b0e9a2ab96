-- `below` meets its contract: the definition, by the test.
use Rattle.std.proofs.Common.{◌≡◌, Bool, true, false, refl, ◌∙◌}
use mir.Val.{bool_byte}
use Rattle.search.specs.Choice.{◌when◌else◌}
use Rattle.arrivals.proofs.repetition.below.Goals as goal

one_or_none : (b : Bool) → bool_byte b ≡ (1 when b else 0)
unfolding ◌when◌else◌
one_or_none true = refl
one_or_none false = refl

pub returns : goal.returns
returns c = c.from.ensures ∙ one_or_none _
