-- What is put, with the stretches from number i on, is all of them.
use Prim.Native.Nat.{ℕ, ◌-◌, ◌≤◌}
use mathlib.Core.Path.{◌≡◌}
use mathlib.Core.List.{List, ◌++◌}
use lib.ListN.{length, drop}
use Rattle.table.specs.Limits.{max_chains}
use Rattle.slices.specs.Code.Wrote.{Wrote}
use Rattle.salvaging.specs.Skipped.{Stretch, skipped_from}
use Rattle.salvaging.specs.Code.Walk.{InOrder}
use Rattle.salvaging.proofs.Stretches.{list_of}
use Rattle.salvaging.proofs.put.put_stretches.Given as goal

-- so far `done` was put
pub record SoFar (s places before out : List ℕ) (end at i : ℕ) : Type 0 where
  pub done : List Stretch
  pub few : i ≤ length places
  pub wrote : Wrote before 0 (list_of done) out end
  pub left : done ++ skipped_from (max_chains - i) s at (drop i places) ≡ skipped_from max_chains s 0 places
  pub order : InOrder s at (drop i places)

abbrev pub invariant-loop-place : goal.invariant-loop-place
invariant-loop-place l = SoFar l.s l.places l.initial.out l.out l.end l.at l.place-index
