-- With those of the places from number i on, bytes and stretches are those of all.
use Prim.Native.Nat.{ℕ, ◌+◌, ◌-◌, ◌≤◌}
use mathlib.Core.Path.{◌≡◌}
use mathlib.Core.List.{List, map, flatten}
use lib.ListN.{length, drop}
use Rattle.table.specs.Limits.{max_chains}
use Rattle.salvaging.specs.Skipped.{skipped_from}
use Rattle.salvaging.specs.Salvage.{record_at}
use Rattle.salvaging.specs.Code.Walk.{InOrder}
use Rattle.salvaging.proofs.put.size_of.Given as goal

pub record SoFar (s places : List ℕ) (bytes stretches at i : ℕ) : Type 0 where
  pub few : i ≤ length places
  pub counts : bytes + length (flatten (map (record_at s) (drop i places))) ≡ length (flatten (map (record_at s) places))
  pub most : bytes ≤ at
  pub gaps : stretches + length (skipped_from (max_chains - i) s at (drop i places)) ≡ length (skipped_from max_chains s 0 places)
  pub least : stretches ≤ i
  pub order : InOrder s at (drop i places)

abbrev pub invariant-loop-place : goal.invariant-loop-place
invariant-loop-place l = SoFar l.s l.places l.bytes l.stretches l.at l.place-index
