-- Rows and tables (02, requests 2 and 7): what is written reads back, what was read is written as the same bytes, and a refusal is the reader's.
use Rattle.std.specs.Prelude.{ℕ, ◌<◌, ◌≤◌, ◌≡◌, List, [], map, length, take, drop, Ok, Err}
use Rattle.search.specs.Lists.{All}
use Rattle.table.specs.Record.{form_at}
use Rattle.table.specs.Find.{rows}
use Rattle.table.specs.Read.{limit_of, read_table, table_of}
use Rattle.table.specs.declared.Row.{Row}
use Rattle.table.specs.Refusal.{numbered}
use Rattle.table.specs.declared.Part.{Part}
use Rattle.table.specs.declared.refusal.Refusal.{Refusal}
use Rattle.table.specs.declared.refusal.Refusal.TheVariants.{BadChainCount, BufferShort}
use Rattle.slices.specs.Locate.{located_of}
use Rattle.writing.specs.Rows.{table_bytes, cleared, Typed}
use Rattle.writing.specs.Write.{verdict_on, RowsRefusal, written_of, Writes}
use Rattle.demands.specs.Chains.{IsTable, Has, record_bytes}
use Rattle.demands.specs.Figures.{Exactly}

-- rows as a program has them, written into a buffer with so much room: n bytes
pub record WrittenInto (room : ℕ) (rs : List Row) (n : ℕ) : Type 0 where
  pub fit : All Typed rs
  pub answered : written_of room rs ≡ Ok n

-- why rows are refused with n: the reader refuses their bytes, its length check left out; or it does not, and the room is too short
pub data RefusedFor (room : ℕ) (rs : List Row) (n : Refusal) : Type 0 where
  rule : {place : ℕ} → verdict_on rs ≡ Err (n, place) → RefusedFor room rs n
  no_room : verdict_on rs ≡ Ok tt → room < length (table_bytes rs) → n ≡ BufferShort → RefusedFor room rs n

pub record RowsAndTables : Type 0 where
  -- what is written is an accepted table, as long as is answered, which fits
  pub table : {rs : List Row} {room n : ℕ} → WrittenInto room rs n → IsTable (table_bytes rs) × (n ≡ length (table_bytes rs)) × (n ≤ room)
  -- the buffer then begins with it, and the rest of it is as it was
  pub written : {rs : List Row} {buffer after : List ℕ} {n : ℕ} → Writes rs buffer (Ok n) after → (take n after ≡ table_bytes rs) × (drop n after ≡ drop n buffer)
  -- it reads back as the same rows, with 0 for what a form lacks and in the places past a count
  pub back : {rs : List Row} {room n : ℕ} → WrittenInto room rs n → rows (table_of (table_bytes rs)) ≡ map cleared rs
  -- writing what was read gives the same bytes, wherever there is room for them
  pub again : {s : List ℕ} → IsTable s → table_bytes (rows (table_of s)) ≡ s
  pub always : {s : List ℕ} → IsTable s → (room : ℕ) → length s ≤ room → written_of room (rows (table_of s)) ≡ Ok (length s)
  -- what a form lacks, and what stands in a place past a count, is neither judged nor written
  pub past : (rs : List Row) → (table_bytes (map cleared rs) ≡ table_bytes rs) × ((room : ℕ) → written_of room (map cleared rs) ≡ written_of room rs)
  -- a refusal's number is the reader's for the bytes of the rows, its length check left out; 24 is the only other, after it
  pub refused : (rs : List Row) (room : ℕ) (n : Refusal) → Exactly (written_of room rs ≡ Err n) (RefusedFor room rs n)
  -- where these bytes are no more than a table has, and so wherever they are accepted, the length check changes nothing
  pub reader : (rs : List Row) → length (table_bytes rs) ≤ limit_of (form_at (table_bytes rs) 0) → (read_table (table_bytes rs)).verdict ≡ verdict_on rs
  pub short : (rs : List Row) → All Typed rs → verdict_on rs ≡ Ok tt → length (table_bytes rs) ≤ limit_of (form_at (table_bytes rs) 0)
  -- 1 and 2 are never given
  pub numbers : (rs : List Row) → All Typed rs → {n : Refusal} {place : ℕ} → verdict_on rs ≡ Err (n, place) → RowsRefusal (numbered n)
  -- no row at all is 11
  pub none : (room : ℕ) → written_of room [] ≡ Err BadChainCount
  -- the record of a chain stands where is answered, and is found wherever a chain has the id
  pub record_there : {s : List ℕ} {id : ℕ} {part : Part} → IsTable s → located_of s id ≡ Ok part → Has s id × (take part.length (drop part.offset s) ≡ record_bytes s id)
  pub record_found : {s : List ℕ} {id : ℕ} → Has s id → (part : Part) × (located_of s id ≡ Ok part)
