-- Saves one after another, for the laws: what the next one finds.
use Rattle.std.specs.Prelude.{ℕ, ◌≤◌, ◌≡◌, List, [], ◌∷◌, length, take, true, is_ok}
use Rattle.table.specs.Bytes.{Bytes}
use Rattle.saving.specs.Save.{Saved, read_fault, saved_of, buffer_after}
use Rattle.std.specs.declared.result.Result.TheVariants.{Ok, Err}

-- a buffer with its used length
pub record State : Type 0 where
  pub buffer : List ℕ
  pub used : ℕ

-- its table's bytes
abbrev pub stored : State → List ℕ
stored x = take x.used x.buffer

-- they are bytes, and the table is accepted
pub record Holding (x : State) : Type 0 where
  pub bytes : Bytes x.buffer
  pub within : x.used ≤ length x.buffer
  pub right : read_fault (stored x) ≡ Ok tt

-- a save: the old record as the editor saw it, and the new
pub record Edit : Type 0 where
  pub old : List ℕ
  pub new : List ℕ

-- the used length after an answer: the one answered, or as it was where the save is refused
abbrev pub used_after : ℕ → Saved → ℕ
used_after used (Ok n) = n
used_after used (Err f) = used

-- what a save answers, and what it leaves
abbrev pub answer : State → Edit → Saved
answer x e = saved_of x.buffer x.used e.old e.new

abbrev pub after : State → Edit → State
after x e = record { buffer = buffer_after x.buffer x.used e.old e.new; used = used_after x.used (answer x e) }

-- what all of them leave, one after another
unfoldable pub after_all : State → List Edit → State
after_all x [] = x
after_all x (e ∷ es) = after_all (after x e) es

-- no accepted one of them stores that record
unfoldable pub Never : List ℕ → State → List Edit → Type 0
Never r x [] = Unit {0}
Never r x (e ∷ es) = (is_ok (answer x e) ≡ true → e.new ≡ r → ⊥) × Never r (after x e) es
