-- The entries of the C editor (01, 'The C editor and the report'): what each returns, and what it leaves in the buffers it is lent.
-- 01 has latency, misses, segment and save, 02 the check (request 1), the write (request 2), the merge and its conflicts (request 4), the
-- misses by the plain engine and by the sieve (request 6), the two conversions (request 7), the salvage (request 8); reading into rows, where a record stands, the
-- report as an entry, and the version, are ours.
use Rattle.std.specs.Prelude.{ℕ, zero, suc, ◌*◌, ◌-◌, ◌≡◌, List, [], ◌∷◌, ◌++◌, map, Bool, length, drop, ltb, ℤ, pos, negsuc}
use Rattle.search.specs.Choice.{◌when◌else◌}
use Rattle.table.specs.Bytes.{bytes_of}
use Rattle.table.specs.Refusal.{Verdict, number_of, part_values, one_value}
use Rattle.table.specs.Read.{read_table, refused_by, fault_place}
use Rattle.table.specs.declared.Row.{Row}
use Rattle.segments.specs.Query as segment
use Rattle.windows.specs.Latency as latency
use Rattle.misses.specs.Misses as misses
use Rattle.misses.specs.Sieve as sieve
use Rattle.slices.specs.Locate as locate
use Rattle.saving.specs.Save as save
use Rattle.merging.specs.Versions.{Versions}
use Rattle.merging.specs.Merge as merge
use Rattle.writing.specs.Fill as fill
use Rattle.writing.specs.Write as write
use Rattle.converting.specs.Convert.{rows_in, converted_of}
use Rattle.converting.specs.declared.To.{To}
use Rattle.salvaging.specs.Salvage as salvage
use Rattle.report_text.specs.Report.{report_of}

-- a signed number in two's complement
abbrev pub unsigned : ℤ → ℕ
unsigned (pos n) = n
unsigned (negsuc n) = 4294967295 - n

-- figures of four bytes each, little-endian
unfoldable pub figure_bytes : List ℕ → List ℕ
figure_bytes [] = []
figure_bytes (x ∷ xs) = bytes_of 4 x ++ figure_bytes xs

-- bytes stand first in a buffer, and its rest stays
abbrev pub starting_with : List ℕ → List ℕ → List ℕ
starting_with bytes before = bytes ++ drop (length bytes) before

-- 27 before everything where the answer buffer has no room for n figures; else the number of the answer
abbrev pub returned : ℕ → ℕ → List ℕ → ℕ
returned n number before = 27 when ltb (length before) (4 * n) else number

-- 0 leaves the bytes first in the buffer; a refusal leaves every byte
abbrev pub left_by : ℕ → List ℕ → List ℕ → List ℕ
left_by zero bytes before = starting_with bytes before
left_by (suc n) bytes before = before

-- r is returned, and the answer buffer that held `before` holds `after`, for an answer of that number and those figures, n if any
pub record Answered (n number : ℕ) (figures before after : List ℕ) (r : ℕ) : Type 0 where
  pub returns : r ≡ returned n number before
  pub leaves : after ≡ left_by r (figure_bytes figures) before

-- latency: K, latency, late, and the margin in two's complement
abbrev pub latency_figures : latency.Answer → List ℕ
latency_figures answer = map unsigned (latency.values_of answer)

pub record LatencyEntry (table : List ℕ) (id : ℕ) (before after : List ℕ) (r : ℕ) : Type 0 where
  pub answers : Answered 4 (number_of (latency.latency_of table id)) (latency_figures (latency.latency_of table id)) before after r

-- misses: how many deadlines are missed
pub record MissesEntry (table : List ℕ) (id k : ℕ) (before after : List ℕ) (r : ℕ) : Type 0 where
  pub answers : Answered 1 (number_of (misses.misses_of table id k)) (one_value (misses.misses_of table id k)) before after r

-- misses by the plain engine: the same
pub record PlainEntry (table : List ℕ) (id k : ℕ) (before after : List ℕ) (r : ℕ) : Type 0 where
  pub answers : Answered 1 (number_of (misses.misses_of table id k)) (one_value (misses.misses_of table id k)) before after r

-- misses by the sieve: how many deadlines are missed at most
pub record AtMostEntry (table : List ℕ) (id k : ℕ) (before after : List ℕ) (r : ℕ) : Type 0 where
  pub answers : Answered 1 (number_of (sieve.at_most_of table id k)) (sieve.values_of (sieve.at_most_of table id k)) before after r

-- segment: offset and length
pub record SegmentEntry (table : List ℕ) (id against number : ℕ) (before after : List ℕ) (r : ℕ) : Type 0 where
  pub answers : Answered 2 (number_of (segment.segment_of table id against number)) (part_values (segment.segment_of table id against number)) before after r

-- save: the new used length, and the table's buffer as the save leaves it; 27 leaves that too
pub record SaveEntry (buffer : List ℕ) (used : ℕ) (old new answer buffer_after answerAfter : List ℕ) (r : ℕ) : Type 0 where
  pub answers : Answered 1 (number_of (save.saved_of buffer used old new)) (one_value (save.saved_of buffer used old new)) answer answerAfter r
  pub leaves : buffer_after ≡ (buffer when ltb (length answer) 4 else save.buffer_after buffer used old new)

-- check: what the reader says of the table, the number and the place of its first fault, 0 and 0 where it is accepted
abbrev pub verdict_figures : Verdict → List ℕ
verdict_figures v = number_of (refused_by v) ∷ fault_place v ∷ []

pub record CheckEntry (table : List ℕ) (before after : List ℕ) (r : ℕ) : Type 0 where
  pub answers : Answered 2 0 (verdict_figures (read_table table).verdict) before after r

-- merge: the used length, and the buffer as the merge leaves it; 27 leaves that too
pub record MergeEntry (v : Versions) (buffer answer buffer_after answerAfter : List ℕ) (r : ℕ) : Type 0 where
  pub answers : Answered 1 (number_of (merge.as_refused (merge.merged_of (length buffer) v))) (one_value (merge.as_refused (merge.merged_of (length buffer) v))) answer answerAfter r
  pub leaves : buffer_after ≡ (buffer when ltb (length answer) 4 else merge.buffer_after (merge.merged_of (length buffer) v) (merge.result_of v) buffer)

-- conflict: the smallest id greater than `above` that is in conflict, 0 if there is none
pub record ConflictEntry (v : Versions) (above : ℕ) (before after : List ℕ) (r : ℕ) : Type 0 where
  pub answers : Answered 1 (number_of (merge.found_of v above)) (one_value (merge.found_of v above)) before after r

-- read: how many chains there are, and the rows as reading leaves them; 27 leaves those too
pub record ReadEntry (table : List ℕ) (rows : List Row) (answer : List ℕ) (rows_after : List Row) (answerAfter : List ℕ) (r : ℕ) : Type 0 where
  pub answers : Answered 1 (number_of (fill.filled_of (length rows) table)) (one_value (fill.filled_of (length rows) table)) answer answerAfter r
  pub leaves : rows_after ≡ (rows when ltb (length answer) 4 else fill.rows_after (fill.filled_of (length rows) table) table rows)

-- write: the used length, and the buffer as the write leaves it; 27 leaves that too
pub record WriteEntry (rows : List Row) (buffer answer buffer_after answerAfter : List ℕ) (r : ℕ) : Type 0 where
  pub answers : Answered 1 (number_of (write.written_of (length buffer) rows)) (one_value (write.written_of (length buffer) rows)) answer answerAfter r
  pub leaves : buffer_after ≡ (buffer when ltb (length answer) 4 else write.buffer_after (write.written_of (length buffer) rows) rows buffer)

-- record: offset and length
pub record RecordEntry (table : List ℕ) (id : ℕ) (before after : List ℕ) (r : ℕ) : Type 0 where
  pub answers : Answered 2 (number_of (locate.located_of table id)) (part_values (locate.located_of table id)) before after r

-- convert, to either form: the used length, and the buffer as the conversion leaves it; 27 leaves that too
pub record ConvertEntry (to : To) (table buffer answer buffer_after answerAfter : List ℕ) (r : ℕ) : Type 0 where
  pub answers : Answered 1 (number_of (converted_of to (length buffer) table)) (one_value (converted_of to (length buffer) table)) answer answerAfter r
  pub leaves : buffer_after ≡ (buffer when ltb (length answer) 4 else write.buffer_after (converted_of to (length buffer) table) (rows_in to table) buffer)

-- salvage: the used lengths of the table and of the list, and both buffers as the salvage leaves them; 27 leaves those too
pub record SalvageEntry (input table list answer tableAfter listAfter answerAfter : List ℕ) (r : ℕ) : Type 0 where
  pub answers : Answered 2 (number_of (salvage.salvaged_of (length table) (length list) input)) (salvage.values_of (salvage.salvaged_of (length table) (length list) input)) answer answerAfter r
  pub leaves_table : tableAfter ≡ (table when ltb (length answer) 8 else salvage.buffer_after (salvage.salvaged_of (length table) (length list) input) (salvage.table_kept input) table)
  pub leaves_list : listAfter ≡ (list when ltb (length answer) 8 else salvage.buffer_after (salvage.salvaged_of (length table) (length list) input) (salvage.list_skipped input) list)

-- report: 24 where its text is longer than the text buffer, else the text's length, and the text; a refused table has its text
abbrev pub too_long : List ℕ → List ℕ → Bool
too_long table text = ltb (length text) (length (report_of table))

pub record ReportEntry (table text answer textAfter answerAfter : List ℕ) (r : ℕ) : Type 0 where
  pub answers : Answered 1 (24 when too_long table text else 0) ([] when too_long table text else length (report_of table) ∷ []) answer answerAfter r
  pub leaves : textAfter ≡ left_by r (report_of table) text

-- the version of the entries, which a caller holds against its header's; a change of an answer, a refusal or an entry raises it
abbrev pub version : ℕ
version = 9
