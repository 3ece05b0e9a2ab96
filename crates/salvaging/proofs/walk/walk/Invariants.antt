-- The places found, with what is kept from `at` on beside their rows, are all that are kept.
use Prim.Native.Nat.{ℕ, ◌≤◌}
use mathlib.Core.Path.{◌≡◌}
use mathlib.Core.List.{List, ◌++◌}
use lib.ListN.{length, take}
use Rattle.table.specs.Limits.{max_chains, max_all_tasks}
use Rattle.table.specs.declared.Table.{Table}
use Rattle.table.specs.declared.before.Before.{Before}
use Rattle.salvaging.specs.Kept.{kept_places}
use Rattle.salvaging.specs.Code.Walk.{Knows}
use Rattle.salvaging.proofs.Walks.{kept_from}
use Rattle.salvaging.proofs.walk.walk.Given as goal

-- the rows kept so far, which are so many, make the table t
pub record SoFar (s places : List ℕ) (before : Before) (count form at : ℕ) (t : Table) : Type 0 where
  pub counts : before.count ≡ count
  pub few : count ≤ max_chains
  pub all_few : before.tasks ≤ max_all_tasks
  pub inside : at ≤ length s
  pub size : length before.ids ≡ max_chains
  pub long : length places ≡ max_chains
  pub beside : Knows before form t
  pub left : take count places ++ kept_from s at t ≡ kept_places s

abbrev pub invariant-loop-count : goal.invariant-loop-count
invariant-loop-count l = (t : Table) × SoFar l.s l.places l.before l.count l.form l.at t
