-- The loop has read the rows of some table t; what is left gives what the whole gives.
use Prim.Native.Nat.{ℕ, ◌-◌, ◌≤◌}
use mathlib.Core.Path.{◌≡◌}
use mathlib.Core.List.{List}
use lib.ListN.{length}
use Rattle.table.specs.Limits.{max_chains, max_all_tasks}
use Rattle.table.specs.Read.{empty, records}
use Rattle.table.specs.Code.Before.{Keeps}
use Rattle.table.specs.declared.Table.{Table}
use Rattle.table.specs.declared.before.Before.{Before}
use Rattle.table.proofs.reader.judge.Given as goal

-- the rows before `at` make the table t
pub record SoFar (s : List ℕ) (before : Before) (at : ℕ) (t : Table) : Type 0 where
  pub few : before.count ≤ max_chains
  pub all : before.tasks ≤ max_all_tasks
  pub inside : at ≤ length s
  pub left : records (max_chains - t.count) s at t ≡ records max_chains s 0 empty
  pub size : length before.ids ≡ max_chains
  pub known : Keeps before t

abbrev pub invariant-loop-at : goal.invariant-loop-at
invariant-loop-at l = (t : Table) × SoFar l.s l.before l.at t

abbrev pub decreases-loop-at : goal.decreases-loop-at
decreases-loop-at l = max_chains - l.before.count
