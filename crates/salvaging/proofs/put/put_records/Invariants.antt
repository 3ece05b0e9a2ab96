-- What is put, with the records from number i on, is all of them.
use Prim.Native.Nat.{ℕ, ◌≤◌}
use mathlib.Core.Path.{◌≡◌}
use mathlib.Core.List.{List, ◌++◌, map, flatten}
use lib.ListN.{length, drop}
use Rattle.slices.specs.Code.Wrote.{Wrote}
use Rattle.salvaging.specs.Salvage.{record_at}
use Rattle.salvaging.specs.Code.Walk.{InOrder}
use Rattle.salvaging.proofs.put.put_records.Given as goal

-- the bytes of the records at these places
abbrev pub bytes_at : List ℕ → List ℕ → List ℕ
bytes_at s places = flatten (map (record_at s) places)

-- so far `done` was put
pub record SoFar (s places before out : List ℕ) (end i : ℕ) : Type 0 where
  pub at : ℕ
  pub done : List ℕ
  pub few : i ≤ length places
  pub wrote : Wrote before 0 done out end
  pub left : done ++ bytes_at s (drop i places) ≡ bytes_at s places
  pub order : InOrder s at (drop i places)

abbrev pub invariant-loop-place : goal.invariant-loop-place
invariant-loop-place l = SoFar l.s l.places l.initial.out l.out l.end l.place-index
