-- 'The most uses any packing has' as a number, so that contracts can be equalities with it. The law `most-greatest` of
-- proofs/Most.antt says what it is: `IsMost` holds of it, whatever is bad and whatever the capacities. How it is found, by `reach` of
-- code/Plain.antt, nobody has to believe.
use Rattle.std.specs.Prelude.{ℕ, suc, Bool, List, get_or, eqb}
use Rattle.search.specs.Find.{last}
use Rattle.table.specs.Limits.{max_overloads}
use Rattle.packing.specs.Packing.{sum_to, combinations}
use Rattle.packing.specs.Code.Plain.{reach}

-- the greatest number of uses that have room; it is no more than all the room there is
unfoldable pub most_uses : (ℕ → Bool) → (ℕ → ℕ) → ℕ
most_uses bad room = last (λ n. reach bad combinations (suc n) room) (sum_to max_overloads room)

-- the bad combinations as flags, of which 1 says bad and anything else does not, and the capacities as a list
abbrev pub flagged : List ℕ → ℕ → Bool
flagged flags m = eqb (get_or flags m 0) 1

abbrev pub capacity : List ℕ → ℕ → ℕ
capacity room i = get_or room i 0
