-- The smallest so far, and those from i on, give the smallest of all.
use Prim.Native.Nat.{ℕ}
use mathlib.Core.Path.{◌≡◌}
use mathlib.Core.Bool.{Bool, ◌&&◌}
use lib.Dec.{ltb}
use lib.ListN.{drop}
use Rattle.merging.specs.Versions.{Versions, three}
use Rattle.merging.specs.Rule.{conflict_of, lesser, least}
use Rattle.merging.specs.Code.Seeks.{RecordAt}
use Rattle.merging.proofs.conflicts.least_conflict.Given as goal

-- the test
abbrev pub passes : Versions → ℕ → ℕ → Bool
passes v above id = ltb above id && conflict_of v id

abbrev pub invariant-loop-id : goal.invariant-loop-id
invariant-loop-id l = let p = passes (three l.ancestor l.first l.second) l.above in
    (lesser l.found (least p (drop l.id-index l.ids)) ≡ least p l.ids) × RecordAt l.first l.a × RecordAt l.second l.b
