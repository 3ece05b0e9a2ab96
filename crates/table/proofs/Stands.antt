-- A chain of an accepted table stands at its place; what its record holds there. Assumes nothing.
use Prim.Native.Nat.{ℕ, ◌+◌, ◌*◌, ◌<◌}
use native.Mathlib.Omega.{arith}
use mathlib.Core.Path.{◌≡◌, refl, ap, ap₂, sym, subst, ◌∙◌}
use mathlib.Core.List.{List}
use lib.ListN.{get_or}
use Rattle.table.specs.Limits.{max_distances, max_tasks}
use Rattle.table.specs.Bytes.{word}
use Rattle.table.specs.Record.{listed_at, tasks_at, list_place, known_at, largest_place, first_task, length_at, priority_at, cost_at, distances_at, largests_at, priorities_at, costs_at, spaced, row_at, distances}
use Rattle.table.specs.Find.{row_of}
use Rattle.table.specs.Place.{length_of, tasks_start, place_of}
use Rattle.table.specs.declared.Row.{Row}
use Rattle.table.specs.Code.Good.{GoodDistances, GoodRow}
use Rattle.table.specs.Code.Listed.{listed_from, distances_from, Lists}
use Rattle.table.specs.Code.Taken.{Taken, Stands}
use Rattle.table.specs.Read.{table_of}
use Rattle.table.proofs.Lists.{spaced-at}
use Rattle.table.proofs.Forms.{listed-before}
use Rattle.table.proofs.Goods.{pad-at, distances-read}
use Rattle.table.proofs.Standing.{place-on}

-- the numbers listed, by their offsets
module _ (s : List ℕ) (at : ℕ) where
  pub list_at : (j : ℕ) → j < listed_at s at → get_or (row_at s at).list j 0 ≡ word 4 s (list_place s at + 4 * j)
  unfolding row_at
  list_at j h = pad-at max_distances (distances_at s at) j ∙ spaced-at (word 4 s) 4 (listed_at s at) j (list_place s at) h

  pub largest-at : (j : ℕ) → j < known_at s at → get_or (row_at s at).largest j 0 ≡ word 4 s (largest_place s at + 4 * j)
  unfolding row_at
  largest-at j h = pad-at max_distances (largests_at s at) j ∙ spaced-at (word 4 s) 4 (known_at s at) j (largest_place s at) h

  pub priority-at : (i : ℕ) → i < tasks_at s at → get_or (row_at s at).priority i 0 ≡ priority_at s (first_task s at + 8 * i)
  unfolding row_at
  priority-at i h = pad-at max_tasks (priorities_at s at) i ∙ spaced-at (priority_at s) 8 (tasks_at s at) i (first_task s at) h

  pub cost-at : (i : ℕ) → i < tasks_at s at → get_or (row_at s at).cost i 0 ≡ cost_at s (first_task s at + 8 * i)
  unfolding row_at
  cost-at i h = pad-at max_tasks (costs_at s at) i ∙ spaced-at (cost_at s) 8 (tasks_at s at) i (first_task s at) h

  -- its tasks start where its row's counts say
  pub tasks-there : first_task s at ≡ at + tasks_start (row_at s at)
  unfolding row_at
  tasks-there = omega arith

  -- a record is as long as its row's counts say
  pub length-at : length_at s at ≡ length_of (row_at s at)
  unfolding row_at
  length-at = refl

-- its list, read from where it starts
module _ (s : List ℕ) (at : ℕ) {list : ℕ} (e : list ≡ list_place s at) where
  pub listed-from : listed_from s list ≡ listed_at s at
  listed-from = ap (λ i. get_or s i 0) (listed-before s list at e)

  pub distances-from : distances (row_at s at) ≡ distances_from s list
  distances-from = distances-read s at ∙ ap₂ (spaced (word 4 s) 4) (sym listed-from) (sym e)

  pub lists : Stands s at → Lists s list
  lists here =
      record {
        after = omega (arith, e);
        there = omega (arith, here.there, listed-from, e);
        good = subst GoodDistances distances-from here.good.list;
      }

-- a chain of an accepted table, at its place
module _ {s : List ℕ} (t : Taken s) {chain at : ℕ} (e : at ≡ place_of (table_of s) chain) (h : chain < (table_of s).count) where
  pub row-there : row_at s at ≡ row_of (table_of s) chain
  row-there = ap (row_at s) e ∙ t.holds.makes chain h

  pub first-there : first_task s at ≡ place_of (table_of s) chain + tasks_start (row_of (table_of s) chain)
  first-there = tasks-there s at ∙ ap₂ (λ n (r : Row). n + tasks_start r) e row-there

  pub stands : Stands s at
  stands =
      record {
        there = omega (arith, t.holds.inside chain h, length-at s at, ap length_of row-there);
        good = subst GoodRow (sym row-there) (t.good.row chain h);
      }

  -- the next one starts where its record ends
  pub place-next : at + length_at s at ≡ place_of (table_of s) (chain + 1)
  place-next = omega (arith, place-on (table_of s) chain (omega (arith, t.good.few, t.good.size)), length-at s at, ap length_of row-there)
