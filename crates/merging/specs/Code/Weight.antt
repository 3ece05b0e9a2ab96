-- What the code counts for an id before anything is built.
use Rattle.std.specs.Prelude.{ℕ, length}
use Rattle.merging.specs.Versions.{Versions, state_of}
use Rattle.merging.specs.Rule.{by_rule}
use Rattle.merging.specs.declared.states.Weight.{Weight}

abbrev pub weight : ℕ → ℕ → Weight
weight conflict bytes = record { conflict = conflict; bytes = bytes }

-- the id where it is in conflict, else 0, and how many bytes are taken of it
unfoldable pub weight_of : Versions → ℕ → Weight
weight_of v id = by_rule v id (weight 0 (length (state_of v.first id))) (weight 0 (length (state_of v.second id))) (weight id 0)
