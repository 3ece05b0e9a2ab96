-- What a write answers by what was judged is what the rows' bytes call for. Assumes nothing.
use Prim.Native.Nat.{ℕ, ◌+◌, ◌≤◌}
use native.Mathlib.Omega.{arith}
use mathlib.Core.Path.{◌≡◌, refl, ap, sym, ◌∙◌}
use mathlib.Core.List.{List, map, flatten}
use mathlib.Core.Bool.{Bool, true, false}
use borrow.Author.Tests.{ltb-false}
use lib.Dec.{eqb, ltb}
use lib.ListN.{length, length-append}
use Rattle.std.specs.declared.result.Result.TheVariants.{Ok, Err}
use Rattle.search.specs.Choice.{◌when◌else◌}
use Rattle.table.specs.Record.{end_record}
use Rattle.table.specs.declared.Row.{Row}
use Rattle.table.specs.declared.refusal.Refusal.{Refusal}
use Rattle.table.specs.declared.refusal.Refusal.TheVariants.{BadChainCount, BufferShort}
use Rattle.table.proofs.Words.{end-length}
use Rattle.writing.specs.Rows.{row_bytes, table_bytes}
use Rattle.writing.specs.Write.{Written, written_of}
use Rattle.writing.specs.Code.Tally.{first_refusal, JudgedRows}
use Rattle.writing.specs.Code.Put.{table_length, fitted}
use Rattle.writing.specs.declared.judged.Tally.{Tally}
use Rattle.writing.proofs.Verdicts.{says-by}
use Rattle.writing.proofs.Judging.{rows_verdict, judged-good}

-- how long the table is
pub table-length : (ys : List Row) → length (table_bytes ys) ≡ length (flatten (map row_bytes ys)) + 4
unfolding table_bytes
table-length ys = length-append (flatten (map row_bytes ys)) (end_record (length ys)) ∙ ap (λ (n : ℕ). length (flatten (map row_bytes ys)) + n) (end-length (length ys))

-- an answer that is a length: that of the table, and there is room
pub fitted-room : (j : Tally) (room : ℕ) {n : ℕ} → fitted j room ≡ Ok n → (n ≡ table_length j) × (table_length j ≤ room)
unfolding fitted ◌when◌else◌
fitted-room j room {n} e = by (eqb j.count 0) (ltb room (table_length j)) refl e
  where
    by : (none t : Bool) → ltb room (table_length j) ≡ t → ◌≡◌ {A = Written} (Err BadChainCount when none else Err BufferShort when t else Ok (table_length j)) (Ok n)
        → (n ≡ table_length j) × (table_length j ≤ room)
    by true t f e = absurd (let z : ◌≡◌ {A = ℕ} 0 1 = cc in omega arith)
    by false true f e = absurd (let z : ◌≡◌ {A = ℕ} 0 1 = cc in omega arith)
    by false false f e = (cc, ltb-false room (table_length j) f)

module _ (ys : List Row) where
  -- refused rows
  pub refused-is : {n : Refusal} → JudgedRows ys (Err n) → (room : ℕ) → Err n ≡ written_of room ys
  unfolding written_of
  refused-is h room = sym (says-by (rows_verdict ys _ h) _)

  -- good ones
  module _ (j : Tally) (h : JudgedRows ys (Ok j)) where
    pub long : table_length j ≡ length (table_bytes ys)
    long = omega (arith, (judged-good ys j h).bytes, table-length ys)

    pub fitted-is : (room : ℕ) → fitted j room ≡ written_of room ys
    unfolding fitted written_of ◌when◌else◌
    fitted-is room = by (eqb j.count 0) (table_length j) long ∙ sym (says-by (rows_verdict ys (Ok j) h) (Err BufferShort when ltb room (length (table_bytes ys)) else Ok (length (table_bytes ys))))
      where
        by : (none : Bool) (l : ℕ) → l ≡ length (table_bytes ys)
            → (Err BadChainCount when none else Err BufferShort when ltb room l else Ok l)
            ≡ first_refusal (Err BadChainCount when none else Ok tt) (Err BufferShort when ltb room (length (table_bytes ys)) else Ok (length (table_bytes ys)))
        by true l e = refl
        by false l e = rw e
