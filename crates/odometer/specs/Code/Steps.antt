-- What the parts of the engine (src/) say of their results.
use Rattle.std.specs.Prelude.{ℕ, ◌+◌, ◌*◌, ◌≤◌, ◌<◌, ◌≡◌, Bool, true}
use Rattle.table.specs.Limits.{max_overloads}
use Rattle.packing.specs.Packing.{bit, combinations}
use Rattle.packing.specs.Code.Engine.{max_byte, max_room}
use Rattle.odometer.specs.declared.Odometer.{Odometer}
use Rattle.odometer.specs.Code.Gone.{uses_of, left_of}

-- m is bad, and each of its active segments has room
pub record Fits (bad : ℕ → Bool) (left : ℕ → ℕ) (m : ℕ) : Type 0 where
  pub marked : bad m ≡ true
  pub room : (i : ℕ) → i < max_overloads → bit i m ≤ left i

-- one use of m more has room, and the numbers stay small
pub record Raisable (m : ℕ) (o : Odometer) : Type 0 where
  pub there : m < combinations
  pub room : (i : ℕ) → i < max_overloads → bit i m ≤ left_of o i
  pub few : uses_of o m < max_byte
  pub small : o.total ≤ max_room

-- the uses of m are counted, and with their room had back none is beyond a byte
pub record Resettable (m : ℕ) (o : Odometer) : Type 0 where
  pub there : m < combinations
  pub counted : uses_of o m ≤ o.total
  pub room : (i : ℕ) → i < max_overloads → left_of o i + uses_of o m * bit i m ≤ max_byte

-- r is o but for m, which it uses n times
pub record Changed (m n : ℕ) (o r : Odometer) : Type 0 where
  pub here : uses_of r m ≡ n
  pub others : (x : ℕ) → x < combinations → (x ≡ m → ⊥) → uses_of r x ≡ uses_of o x
  pub left : (i : ℕ) → i < max_overloads → left_of r i + n * bit i m ≡ left_of o i + uses_of o m * bit i m
  pub total : r.total + uses_of o m ≡ o.total + n
  pub over : r.over ≡ o.over
