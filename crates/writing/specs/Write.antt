-- Writing a table from rows (02, requests 2 and 7): what the call answers, and what it leaves in the buffer.
use Rattle.std.specs.Prelude.{ℕ, ◌≤◌, ◌≡◌, List, ◌++◌, ◌⊎◌, length, drop, ltb, is_ok}
use Rattle.search.specs.Choice.{◌when◌else◌}
use Rattle.table.specs.Limits.{max_chains}
use Rattle.table.specs.Read.{empty, by_verdict, records}
use Rattle.table.specs.declared.Row.{Row}
use Rattle.table.specs.Refusal.{Verdict}
use Rattle.writing.specs.Rows.{table_bytes}
use Rattle.std.specs.declared.result.Result.{Result}
use Rattle.std.specs.declared.result.Result.TheVariants.{Ok, Err}
use Rattle.table.specs.declared.refusal.Refusal.{Refusal}
use Rattle.table.specs.declared.refusal.Refusal.TheVariants.{BufferShort}

-- what a write answers: the used length, or the refusal
abbrev pub Written : Type 0
Written = Result ℕ Refusal

-- what the reader says of the bytes that the rows have, its length check left out
unfoldable pub verdict_on : List Row → Verdict
verdict_on rs = (records max_chains (table_bytes rs) 0 empty).verdict

-- the numbers that rows are refused with: a table's, but for 1 and 2, which only bytes can have
abbrev pub RowsRefusal : ℕ → Type 0
RowsRefusal n = ((3 ≤ n) × (n ≤ 7)) ⊎ ((9 ≤ n) × (n ≤ 11)) ⊎ ((28 ≤ n) × (n ≤ 31)) ⊎ (n ≡ 33)

-- the rows' number, and then 24 where the table is longer than the buffer
unfoldable pub written_of : ℕ → List Row → Written
written_of room rs =
    by_verdict Err (verdict_on rs)
    (Err BufferShort when ltb room (length (table_bytes rs)) else Ok (length (table_bytes rs)))

-- the whole buffer after an answer: the table first, and its rest stays; refused, every byte stays
abbrev pub buffer_after : Written → List Row → List ℕ → List ℕ
buffer_after answer rs buffer = table_bytes rs ++ drop (length (table_bytes rs)) buffer when is_ok answer else buffer

-- what a write does
pub record Writes (rs : List Row) (buffer : List ℕ) (answer : Written) (after : List ℕ) : Type 0 where
  pub answers : answer ≡ written_of (length buffer) rs
  pub leaves : after ≡ buffer_after answer rs buffer
