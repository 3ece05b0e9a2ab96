-- Salvage of a damaged table (02, request 8): what the call answers, and what it leaves in its two buffers.
use Rattle.std.specs.Prelude.{ℕ, ◌≡◌, ◌||◌, length, take, drop, eqb, ltb, is_ok}
use mathlib.Core.List.{List, [], ◌∷◌, ◌++◌, map, flatten}
use Rattle.search.specs.Choice.{◌when◌else◌}
use Rattle.table.specs.Limits.{max_chains, max_input}
use Rattle.table.specs.Bytes.{bytes_of}
use Rattle.table.specs.Record.{length_at, end_record}
use Rattle.salvaging.specs.Kept.{kept_places}
use Rattle.salvaging.specs.Skipped.{Stretch, skipped_from}
use Rattle.std.specs.declared.result.Result.{Result}
use Rattle.std.specs.declared.result.Result.TheVariants.{Ok, Err}
use Rattle.table.specs.declared.refusal.Refusal.{Refusal}
use Rattle.table.specs.declared.refusal.Refusal.TheVariants.{BufferShort, InputTooLong, NothingKept}
use Rattle.salvaging.specs.declared.Lengths.{Lengths}

-- what a salvage answers: the used lengths of the table and of the list, or the refusal
abbrev pub Answer : Type 0
Answer = Result Lengths Refusal

-- its values: these two, or none
abbrev pub values_of : Answer → List ℕ
values_of (Ok used) = used.table ∷ used.list ∷ []
values_of (Err n) = []

-- the record at a place, byte for byte
abbrev pub record_at : List ℕ → ℕ → List ℕ
record_at s place = take (length_at s place) (drop place s)

-- the table of the records kept, in order, and an end record with their count
abbrev pub table_with : List ℕ → List ℕ → List ℕ
table_with s places = flatten (map (record_at s) places) ++ end_record (length places)

abbrev pub table_kept : List ℕ → List ℕ
table_kept s = table_with s (kept_places s)

-- the list of the stretches skipped, in order: offset and length, four bytes each
abbrev pub stretch_bytes : Stretch → List ℕ
stretch_bytes x = bytes_of 4 x.offset ++ bytes_of 4 x.size

abbrev pub list_with : List ℕ → List ℕ → List ℕ
list_with s places = flatten (map stretch_bytes (skipped_from max_chains s 0 places))

abbrev pub list_skipped : List ℕ → List ℕ
list_skipped s = list_with s (kept_places s)

-- 24 where either result is longer than its buffer
abbrev pub fitted : ℕ → ℕ → List ℕ → List ℕ → Answer
fitted tableRoom listRoom table list =
    Err BufferShort when ltb tableRoom (length table) || ltb listRoom (length list) else
    Ok (record { table = length table; list = length list })

-- 35 for an input that is too long, 36 where nothing is kept, then whether the results fit
unfoldable pub salvaged_of : ℕ → ℕ → List ℕ → Answer
salvaged_of tableRoom listRoom s =
    Err InputTooLong when ltb max_input (length s) else
    Err NothingKept when eqb (length (kept_places s)) 0 else
    fitted tableRoom listRoom (table_kept s) (list_skipped s)

-- a whole buffer after an answer: its result first, and its rest stays; refused, every byte stays
abbrev pub buffer_after : Answer → List ℕ → List ℕ → List ℕ
buffer_after answer result buffer = result ++ drop (length result) buffer when is_ok answer else buffer

-- what a salvage does
pub record Salvages (s table list : List ℕ) (answer : Answer) (tableAfter listAfter : List ℕ) : Type 0 where
  pub answers : answer ≡ salvaged_of (length table) (length list) s
  pub leaves_table : tableAfter ≡ buffer_after answer (table_kept s) table
  pub leaves_list : listAfter ≡ buffer_after answer (list_skipped s) list
