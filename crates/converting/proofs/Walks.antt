-- The rows of a table, one after the other. Assumes nothing.
use Prim.Native.Nat.{ℕ, ◌+◌, ◌<◌, ◌≤◌}
use native.Mathlib.Omega.{arith}
use mathlib.Core.Path.{◌≡◌}
use mathlib.Core.List.{[], ◌∷◌}
use lib.ListN.{drop}
use Rattle.table.specs.Record.{blank}
use Rattle.table.specs.Find.{row_of, rows}
use Rattle.table.specs.Code.Good.{GoodTable}
use Rattle.table.specs.declared.Table.{Table}
use Rattle.writing.proofs.Lefts.{left-on, left-none}

-- those from `chain` on
module _ {t : Table} (good : GoodTable t) where
  pub rows-from : (chain : ℕ) → chain < t.count → drop chain (rows t) ≡ row_of t chain ∷ drop (chain + 1) (rows t)
  rows-from chain h = left-on t.row t.count chain blank h (omega (arith, good.few, good.size))

  pub rows_end : (chain : ℕ) → t.count ≤ chain → drop chain (rows t) ≡ []
  rows_end chain h = left-none t.row t.count chain (omega arith)
