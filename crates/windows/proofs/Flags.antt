-- A test as a number. Assumes nothing.
use mathlib.Core.Path.{◌≡◌, refl}
use mathlib.Core.Bool.{Bool, true, false}
use mir.Val.{bool_byte}
use Rattle.search.specs.Choice.{◌when◌else◌}

-- 1 where it holds, else 0
pub byte_when : (t : Bool) → bool_byte t ≡ (1 when t else 0)
unfolding ◌when◌else◌
byte_when true = refl
byte_when false = refl
