-- Saves from a record as it was seen: what is refused, and what counts as seen. A state is a buffer with its used length, an edit an old
-- record and a new one.
use Rattle.std.specs.Prelude.{ℕ, ◌<◌, ◌≡◌, List, true, is_ok, Ok, Err}
use Rattle.search.specs.Lists.{All}
use Rattle.table.specs.Bytes.{Bytes}
use Rattle.table.specs.Record.{id_at}
use Rattle.table.specs.Find.{row_of}
use Rattle.table.specs.Read.{table_of}
use Rattle.table.specs.declared.refusal.Refusal.TheVariants.{StaleRecord}
use Rattle.slices.specs.Stored.{record_of}
use Rattle.saving.specs.Later.{State, stored, Holding, Edit, answer, after, after_all, Never}

-- no stored chain record is this one
abbrev pub Unstored : List ℕ → State → Type 0
Unstored r x = (chain : ℕ) → chain < (table_of (stored x)).count → record_of (stored x) chain ≡ r → ⊥

-- an accepted edit of bytes, out of a buffer of bytes
pub record AcceptedEdit (x : State) (e : Edit) : Type 0 where
  pub buffer : Bytes x.buffer
  pub new : Bytes e.new
  pub accepted : is_ok (answer x e) ≡ true

-- the edit with another new record, and the edit that takes it back
abbrev pub from : Edit → List ℕ → Edit
from e new = record { old = e.old; new = new }

abbrev pub back : Edit → Edit
back e = record { old = e.new; new = e.old }

-- a stored record saved as it is
abbrev pub as_is : State → ℕ → Edit
as_is x chain = record { old = record_of (stored x) chain; new = record_of (stored x) chain }

pub record SeenRecords : Type 0 where
  -- a save that starts from a record other than the stored ones is refused
  pub other : (x : State) (e : Edit) → Holding x → Unstored e.old x → answer x e ≡ Err StaleRecord
  -- so is one whose old record bears the id of a stored record and differs from it
  pub changed : (x : State) (e : Edit) → Holding x → (chain : ℕ) → chain < (table_of (stored x)).count → id_at e.old 0 ≡ (row_of (table_of (stored x)) chain).id
      → (e.old ≡ record_of (stored x) chain → ⊥) → answer x e ≡ Err StaleRecord
  -- so after an accepted save that changed a record, every save from the record as it was is refused, whatever else is saved, until an
  -- accepted save stores that record again
  pub stale : (x : State) (e : Edit) → AcceptedEdit x e → (e.new ≡ e.old → ⊥)
      → (es : List Edit) → All (λ f. Bytes f.new) es → Never e.old (after x e) es
      → (new : List ℕ) → answer (after_all (after x e) es) (from e new) ≡ Err StaleRecord
  -- a record changed away and changed back counts as the one seen: the way back is accepted, the table is as it was, and every save from
  -- that record is answered as before
  pub changed_back : (x : State) (e : Edit) → AcceptedEdit x e
      → (is_ok (answer (after x e) (back e)) ≡ true) × (stored (after (after x e) (back e)) ≡ stored x)
      × ((new : List ℕ) → answer (after (after x e) (back e)) (from e new) ≡ answer x (from e new))
  -- a stored record saved as it is answers the used length, and changes nothing
  pub unchanged : (x : State) → Holding x → (chain : ℕ) → chain < (table_of (stored x)).count → (answer x (as_is x chain) ≡ Ok x.used) × (after x (as_is x chain) ≡ x)
