-- What the merge takes for an id, and which ids are in conflict (02, request 4).
use Rattle.std.specs.Prelude.{ℕ, min, List, [], ◌∷◌, ◌++◌, Bool, true, false, not, ◌&&◌, eqb, ltb}
use Rattle.search.specs.Choice.{◌when◌else◌}
use Rattle.search.specs.Lists.{some, keep}
use Rattle.slices.specs.Slices.{same}
use Rattle.merging.specs.Versions.{Versions, state_of, ids_of}

-- by the states of an id in the three: both copies alike, the first's, which is the second's too; one copy as the ancestor, the other's;
-- else neither
unfoldable pub by_states : {A : Type 0} → List ℕ → List ℕ → List ℕ → A → A → A → A
by_states was first second firsts seconds neither =
    firsts when same first second else
    seconds when same first was else
    firsts when same second was else
    neither

abbrev pub by_rule : {A : Type 0} → Versions → ℕ → A → A → A → A
by_rule v id = by_states (state_of v.ancestor id) (state_of v.first id) (state_of v.second id)

-- the state that is taken, and whether the id is in conflict: it was changed differently on both sides
abbrev pub taken_of : Versions → ℕ → List ℕ
taken_of v id = by_rule v id (state_of v.first id) (state_of v.second id) []

abbrev pub conflict_of : Versions → ℕ → Bool
conflict_of v id = by_rule v id false false true

-- one of the numbers is this one; the numbers with those of another list that are not among them
abbrev pub among : List ℕ → ℕ → Bool
among l n = some (λ m. eqb m n) l

abbrev pub joined : List ℕ → List ℕ → List ℕ
joined l r = l ++ keep (λ n. not (among l n)) r

-- the ids in the order of the result: the ancestor's, then the first copy's additions, then the second's that the first has not
unfoldable pub order : Versions → List ℕ
order v = joined (joined (ids_of v.ancestor) (ids_of v.first)) (ids_of v.second)

-- the smaller of two numbers, where 0 stands for none; the smallest of those that pass a test, 0 if none does
abbrev pub lesser : ℕ → ℕ → ℕ
lesser n m = m when eqb n 0 else n when eqb m 0 else min n m

unfoldable pub least : (ℕ → Bool) → List ℕ → ℕ
least p [] = 0
least p (n ∷ l) = lesser (n when p n else 0) (least p l)

-- the smallest id greater than `above` that is in conflict, 0 if there is none
unfoldable pub conflict_above : Versions → ℕ → ℕ
conflict_above v above = least (λ id. ltb above id && conflict_of v id) (order v)
