-- How long a record is in the other form, and all of them. Assumes nothing.
use Prim.Native.Nat.{ℕ, zero, suc, ◌+◌, ◌*◌, ◌≤◌}
use native.Mathlib.Omega.{arith}
use mathlib.Core.Path.{◌≡◌, refl}
use mathlib.Core.List.{map}
use lib.ListN.{drop}
use borrow.Author.Tests.{eq-eqb, ne_eqb}
use Rattle.search.specs.Choice.{◌when◌else◌}
use Rattle.search.specs.Lists.{sum_of}
use Rattle.table.specs.Limits.{max_chains}
use Rattle.table.specs.Record.{gap_form, largest_form, head_length, known, known_of}
use Rattle.table.specs.Find.{rows}
use Rattle.table.specs.Place.{length_of}
use Rattle.table.specs.Code.Good.{GoodRow, GoodTable}
use Rattle.table.specs.declared.Row.{Row}
use Rattle.table.specs.declared.Table.{Table}
use Rattle.table.proofs.Standing.{longest_record, record_most}
use Rattle.converting.specs.Forms.{with_largest, with_gap, converted}
use Rattle.converting.specs.declared.To.{To}
use Rattle.converting.specs.declared.To.TheVariants.{Largest, Gap}
use Rattle.converting.proofs.Walks.{rows-from, rows_end}

-- how many largest distances there are in the other form
module _ (r : Row) where
  pub none-with-gap : known_of (with_gap r) ≡ 0
  unfolding known ◌when◌else◌
  none-with-gap = refl

  pub none-unknown : r.gap ≡ 0 → known_of (with_largest r) ≡ 0
  unfolding known ◌when◌else◌
  none-unknown e = rw (eq-eqb _ _ e)

  pub all_known : (r.gap ≡ 0 → ⊥) → known_of (with_largest r) ≡ r.listed
  unfolding known ◌when◌else◌
  all_known h = rw (ne_eqb _ _ h)

-- one record, in the code's shape
module _ (r : Row) where
  pub gap_length : length_of (with_gap r) ≡ head_length gap_form + (4 * r.listed + 8 * r.tasks)
  unfolding known ◌when◌else◌
  gap_length = omega arith

  pub unknown-length : r.gap ≡ 0 → length_of (with_largest r) ≡ head_length largest_form + (4 * r.listed + 8 * r.tasks)
  unfolding known ◌when◌else◌
  unknown-length e = rw (eq-eqb _ _ e) (omega arith)

  pub known-length : (r.gap ≡ 0 → ⊥) → length_of (with_largest r) ≡ head_length largest_form + (4 * r.listed + 8 * r.tasks) + 4 * r.listed
  unfolding known ◌when◌else◌
  known-length h = rw (ne_eqb _ _ h) (omega arith)

-- the longest, whatever its form
pub converted-most : (to : To) {r : Row} → GoodRow r → length_of (converted to r) ≤ longest_record
converted-most Largest {r} good = record_most good largest_form (with_largest r).flag
converted-most Gap {r} good = record_most good gap_form 0

-- all records
module _ {t : Table} (good : GoodTable t) where
  rest-most : (to : To) (left chain : ℕ) → chain + left ≡ t.count → sum_of length_of (map (converted to) (drop chain (rows t))) ≤ longest_record * left
  unfolding sum_of
  rest-most to zero chain e = rw (rows_end good chain (omega arith)) (omega arith)
  rest-most to (suc left) chain e =
      rw (rows-from good chain (omega arith))
      (omega (arith, converted-most to (good.row chain (omega arith)), rest-most to left (chain + 1) (omega arith)))

  pub lengths_most : (to : To) → sum_of length_of (map (converted to) (rows t)) ≤ longest_record * max_chains
  lengths_most to = omega (arith, rest-most to t.count 0 (omega arith), good.few)
