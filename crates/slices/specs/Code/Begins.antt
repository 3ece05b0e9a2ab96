-- What is known of an array into which bytes are put.
use Rattle.std.specs.Prelude.{◌≡◌, List, ℕ, length, take}

-- the first bytes of `out` are those
pub record Begins (out bytes : List ℕ) : Type 0 where
  pub first : take (length bytes) out ≡ bytes
