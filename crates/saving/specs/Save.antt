-- Saving one record: given a buffer, the used length, the old record as the editor saw it, and the new (01, 'Saving one record').
use Rattle.std.specs.Prelude.{ℕ, max, ◌-◌, ◌≡◌, List, ◌++◌, Bool, not, ◌||◌, length, take, drop, replicate, ltb, eqb, is_ok, Some, None, ⊤}
use Rattle.search.specs.Choice.{◌when◌else◌}
use Rattle.search.specs.Find.{first}
use Rattle.table.specs.Record.{form_at, id_at, head_length, length_at}
use Rattle.table.specs.Find.{row_of}
use Rattle.table.specs.Fault.{mark_of, is_chain}
use Rattle.table.specs.Refusal.{answering}
use Rattle.table.specs.Read.{by_verdict, refused_by, read_table, table_of}
use Rattle.table.specs.Place.{length_of, place_of}
use Rattle.slices.specs.Slices.{same, splice}
use Rattle.slices.specs.Stored.{record_of}
use Rattle.std.specs.declared.option.Option.{Option}
use Rattle.std.specs.declared.result.Result.{Result}
use Rattle.std.specs.declared.result.Result.TheVariants.{Err}
use Rattle.table.specs.declared.refusal.Refusal.{Refusal}
use Rattle.table.specs.declared.refusal.Refusal.TheVariants.{BadLength, StaleRecord, BadRecord, BufferShort}

-- what a save answers: the new used length, or the refusal
abbrev pub Saved : Type 0
Saved = Result ℕ Refusal

-- no fault, or the first one
abbrev pub Judgement : Type 0
Judgement = Result ⊤ Refusal

-- why the table that the bytes store is refused, if it is
abbrev pub read_fault : List ℕ → Judgement
read_fault s = refused_by (read_table s).verdict

-- the number of the first chain whose stored record equals the old one, the count of chains if none does
unfoldable pub seen_of : List ℕ → List ℕ → ℕ
seen_of s old = first (λ chain. same (record_of s chain) old) 0 (table_of s).count

-- that chain, if one does
abbrev pub seen_chain : List ℕ → List ℕ → Option ℕ
seen_chain s old = None when eqb (seen_of s old) (table_of s).count else Some (seen_of s old)

-- a record lacks bytes of its fixed part, which is as long as its own mark says (02, request 7)
abbrev pub cut : List ℕ → Bool
cut r = ltb (length r) (head_length (form_at r 0))

-- the new record is cut, lacks a chain's mark, is not exactly as long as its own mark, flag, list length and task count say, or bears
-- another id
unfoldable pub unfit : List ℕ → ℕ → Bool
unfit new id = cut new || not (is_chain (mark_of (form_at new 0))) || not (eqb (length new) (length_at new 0)) || not (eqb (id_at new 0) id)

-- the result: the new record in the old one's place
unfoldable pub result_of : List ℕ → List ℕ → List ℕ → List ℕ
result_of s old new = splice s (place_of (table_of s) (seen_of s old)) (length_of (row_of (table_of s) (seen_of s old))) new

-- the result is longer than the buffer, which has that much room; then a table's numbers on the result
unfoldable pub result_fault : ℕ → List ℕ → Judgement
result_fault room result = Err BufferShort when ltb room (length result) else read_fault result

-- on an accepted table: 22, 23, 24, then a table's numbers on the result
unfoldable pub replace_fault : ℕ → List ℕ → List ℕ → List ℕ → Judgement
replace_fault room s old new =
    Err StaleRecord when eqb (seen_of s old) (table_of s).count else
    Err BadRecord when unfit new (row_of (table_of s) (seen_of s old)).id else
    result_fault room (result_of s old new)

-- a refused table refuses the save with its own number
unfoldable pub change_fault : ℕ → List ℕ → List ℕ → List ℕ → Judgement
change_fault room s old new = by_verdict Err (read_table s).verdict (replace_fault room s old new)

-- the table is the first `used` bytes of the buffer; 1 where those are more than it has
unfoldable pub save_fault : List ℕ → ℕ → List ℕ → List ℕ → Judgement
save_fault buffer used old new =
    Err BadLength when ltb (length buffer) used else change_fault (length buffer) (take used buffer) old new

-- the result first; bytes between a shorter end and the former end become 0; bytes past both ends stay
unfoldable pub written : List ℕ → ℕ → List ℕ → List ℕ
written buffer used result = result ++ replicate (used - length result) 0 ++ drop (max used (length result)) buffer

-- The answer, and the whole buffer afterwards: refused, every byte stays

unfoldable pub saved_of : List ℕ → ℕ → List ℕ → List ℕ → Saved
saved_of buffer used old new = answering (save_fault buffer used old new) (length (result_of (take used buffer) old new))

unfoldable pub buffer_after : List ℕ → ℕ → List ℕ → List ℕ → List ℕ
buffer_after buffer used old new =
    written buffer used (result_of (take used buffer) old new) when is_ok (save_fault buffer used old new) else buffer

-- what a save does
pub record Saves (buffer : List ℕ) (used : ℕ) (old new : List ℕ) (answer : Saved) (after : List ℕ) : Type 0 where
  pub answers : answer ≡ saved_of buffer used old new
  pub leaves : after ≡ buffer_after buffer used old new
