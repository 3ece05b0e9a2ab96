-- Demand 1, entry by entry: every input is answered or refused with one number, a refused call leaves every lent byte, and two results
-- that an entry's statement allows are equal, all lent bytes included. An entry's statement is the one of its contract.
use Rattle.std.specs.Prelude.{ℕ, ◌≤◌, ◌≡◌, List, [], ◌∷◌, ◌⊎◌, length, map, Ok, Err}
use Rattle.std.specs.Borrow.{Bor}
use Rattle.std.specs.declared.result.Result.{Result}
use Rattle.search.specs.Lists.{All}
use Rattle.table.specs.Bytes.{Bytes}
use Rattle.table.specs.Refusal.{Verdict, numbered, number_of, one_value, part_values}
use Rattle.table.specs.Read.{Reading, refusal, accepted, read_table, refused_by, outcome_of}
use Rattle.table.specs.Field.{TableRefusal}
use Rattle.table.specs.declared.Table.{Table}
use Rattle.table.specs.declared.refusal.Fault.{Fault}
use Rattle.table.specs.declared.refusal.Refusal.TheVariants.{BadLength, BytesMissing, BadMark, BadId, BadKind, BadDeadline, BadGap, BadTaskCount, BadTask, BadChainCount, NoChain, BadRun, OverloadAsked, GapUnknown, PastHorizon, StillOpen, TooManySegments, StartsAgain, CapacityAbove, StaleRecord, BadRecord, BufferShort, SameChain, NoSuchSegment, AnswerShort, BadListLength, BadDistance, LastIsZero, GapTooSmall, Conflicting, BadLargest, NoSuchForm, InputTooLong, NothingKept}
use Rattle.table.specs.declared.Row.{Row}
use Rattle.slices.specs.Locate.{located_of}
use Rattle.segments.specs.Query.{segment_of, HandedBack, Answer as Segment}
use Rattle.windows.specs.Latency.{latency_of}
use Rattle.misses.specs.Misses.{misses_of}
use Rattle.misses.specs.Sieve.{at_most_of, values_of as atMostFigures}
use Rattle.saving.specs.Save.{Saves}
use Rattle.merging.specs.Versions.{Versions}
use Rattle.merging.specs.Merge.{Answer as Merged, as_refused, Merges, found_of, Chosen}
use Rattle.salvaging.specs.Salvage.{Salvages}
use Rattle.writing.specs.Rows.{Typed}
use Rattle.writing.specs.Write.{RowsRefusal, Writes}
use Rattle.writing.specs.Fill.{Fills}
use Rattle.converting.specs.Convert.{Converts}
use Rattle.converting.specs.declared.To.{To}
use Rattle.report_text.specs.Report.{Reported}
use Rattle.editor.specs.Entry.{latency_figures, LatencyEntry, MissesEntry, PlainEntry, AtMostEntry, SegmentEntry, SaveEntry, CheckEntry, MergeEntry, ConflictEntry, ReadEntry, WriteEntry, RecordEntry, ConvertEntry, SalvageEntry, ReportEntry, version}

-- the number that the documents give each refusal
pub record RefusalNumbers : Type 0 where
  pub table : map numbered (BadLength ∷ BytesMissing ∷ BadMark ∷ BadId ∷ BadKind ∷ BadDeadline ∷ BadGap ∷ BadTaskCount ∷ BadTask ∷ BadChainCount ∷ []) ≡ 1 ∷ 2 ∷ 3 ∷ 4 ∷ 5 ∷ 6 ∷ 7 ∷ 9 ∷ 10 ∷ 11 ∷ []
  pub query : map numbered (NoChain ∷ BadRun ∷ OverloadAsked ∷ GapUnknown ∷ PastHorizon ∷ StillOpen ∷ TooManySegments ∷ StartsAgain ∷ CapacityAbove ∷ []) ≡ 12 ∷ 13 ∷ 14 ∷ 15 ∷ 16 ∷ 17 ∷ 18 ∷ 19 ∷ 21 ∷ []
  pub change : map numbered (StaleRecord ∷ BadRecord ∷ BufferShort ∷ []) ≡ 22 ∷ 23 ∷ 24 ∷ []
  pub asked : map numbered (SameChain ∷ NoSuchSegment ∷ AnswerShort ∷ []) ≡ 25 ∷ 26 ∷ 27 ∷ []
  pub lists : map numbered (BadListLength ∷ BadDistance ∷ LastIsZero ∷ GapTooSmall ∷ []) ≡ 28 ∷ 29 ∷ 30 ∷ 31 ∷ []
  pub later : map numbered (Conflicting ∷ BadLargest ∷ NoSuchForm ∷ InputTooLong ∷ NothingKept ∷ []) ≡ 32 ∷ 33 ∷ 34 ∷ 35 ∷ 36 ∷ []

-- n lies between low and high, both included
abbrev pub Between : ℕ → ℕ → ℕ → Type 0
Between low high n = (low ≤ n) × (n ≤ high)

-- the numbers that each query, a save and a merge can be refused with, a table's own among them, then those of rows written and read, of
-- the record's place, of a conversion, of a salvage, of a report and of the check, which has none; what asks for conflicts is refused with a table's own
-- only; a C entry can also be refused with 27
abbrev pub LatencyRefusal : ℕ → Type 0
LatencyRefusal n = TableRefusal n ⊎ (n ≡ 12) ⊎ Between 16 17 n

abbrev pub MissesRefusal : ℕ → Type 0
MissesRefusal n = TableRefusal n ⊎ Between 12 19 n ⊎ (n ≡ 21)

abbrev pub SegmentRefusal : ℕ → Type 0
SegmentRefusal n = TableRefusal n ⊎ (n ≡ 12) ⊎ Between 25 26 n

abbrev pub SaveRefusal : ℕ → Type 0
SaveRefusal n = TableRefusal n ⊎ Between 22 24 n

abbrev pub MergeRefusal : ℕ → Type 0
MergeRefusal n = TableRefusal n ⊎ (n ≡ 24) ⊎ (n ≡ 32)

abbrev pub WriteRefusal : ℕ → Type 0
WriteRefusal n = RowsRefusal n ⊎ (n ≡ 24)

abbrev pub ReadRefusal : ℕ → Type 0
ReadRefusal n = TableRefusal n ⊎ (n ≡ 24)

abbrev pub RecordRefusal : ℕ → Type 0
RecordRefusal n = TableRefusal n ⊎ (n ≡ 12)

abbrev pub ConvertRefusal : ℕ → Type 0
ConvertRefusal n = TableRefusal n ⊎ (n ≡ 34) ⊎ (n ≡ 24)

abbrev pub SalvageRefusal : ℕ → Type 0
SalvageRefusal n = Between 35 36 n ⊎ (n ≡ 24)

abbrev pub ReportRefusal : ℕ → Type 0
ReportRefusal n = n ≡ 24

abbrev pub CheckRefusal : ℕ → Type 0
CheckRefusal n = ⊥

abbrev pub AtEntry : (ℕ → Type 0) → ℕ → Type 0
AtEntry Refusal n = (n ≡ 27) ⊎ Refusal n

-- the number of a verdict, and of what a merge answers; and what the reader's answer says of the bytes: their verdict and their table
abbrev pub verdictNumber : Verdict → ℕ
verdictNumber v = number_of (refused_by v)

abbrev pub mergeNumber : Merged → ℕ
mergeNumber a = number_of (as_refused a)

abbrev pub reading_by : Result Table Fault → Reading
reading_by (Ok t) = accepted t
reading_by (Err f) = refusal f.0 f.1

-- an answer of that number and those figures: 0 and n figures, or a refusal, which gives its number and no figure
pub record OneAnswer (Refusal : ℕ → Type 0) (n number : ℕ) (figures : List ℕ) : Type 0 where
  pub answered : number ≡ 0 → length figures ≡ n
  pub refused : (number ≡ 0 → ⊥) → Refusal number × (figures ≡ [])

-- a query of the library, by what its statement allows: some answer, and two that it allows are equal
pub record Query {A : Type 0} (Allows : A → Type 0) (Refusal : ℕ → Type 0) (n : ℕ) (number : A → ℕ) (figures : A → List ℕ) : Type 0 where
  pub taken : (a : A) × Allows a
  pub one : {a b : A} → Allows a → Allows b → a ≡ b
  pub answer : {a : A} → Allows a → OneAnswer Refusal n (number a) (figures a)

-- a call that writes into lent bytes or rows, by what its statement allows of these afterwards and of its result, whose number is 0 or a
-- refusal: some result, two that it allows are equal, lent bytes included, and a refused call leaves every lent byte
pub record Call {A R : Type 0} (Allows : A → R → Type 0) (Refusal : ℕ → Type 0) (number : R → ℕ) (before : A) : Type 0 where
  pub taken : (after : A) × (r : R) × Allows after r
  pub one : {x y : A} {r q : R} → Allows x r → Allows y q → (x ≡ y) × (r ≡ q)
  pub refused : {x : A} {r : R} → Allows x r → (number r ≡ 0 → ⊥) → Refusal (number r) × (x ≡ before)

-- a call that is refused nowhere: two results that its statement allows are equal, lent bytes included
pub record OneResult {A R : Type 0} (Allows : A → R → Type 0) : Type 0 where
  pub one : {x y : A} {r q : R} → Allows x r → Allows y q → (x ≡ y) × (r ≡ q)

-- the part of the lent table that is handed back: there is one, and its bytes and its place in memory are the only ones
pub record OnePart (table : Bor (List ℕ)) (answer : Segment) : Type 0 where
  pub taken : (r : Bor (List ℕ)) × HandedBack table r answer
  pub one : {r q : Bor (List ℕ)} → HandedBack table r answer → HandedBack table q answer → (r.now ≡ q.now) × (r.ref_ptr ≡ q.ref_ptr)

-- the record taken for an id, as a part of one of the lent copies: there is one, and its bytes and its place are the only ones
pub record OneChosen (ancestor first second : Bor (List ℕ)) (id : ℕ) : Type 0 where
  pub taken : (r : Bor (List ℕ)) × Chosen ancestor first second id r
  pub one : {r q : Bor (List ℕ)} → Chosen ancestor first second id r → Chosen ancestor first second id q → (r.now ≡ q.now) × (r.ref_ptr ≡ q.ref_ptr)

-- every entry of the library and of C
pub record EveryEntry : Type 0 where
  -- `table::judge`, `table::read`
  pub judge : (s : List ℕ) → Query (λ v. v ≡ (read_table s).verdict) TableRefusal 0 verdictNumber (λ v. [])
  pub read : (s : List ℕ) → Query (λ r. r ≡ outcome_of (read_table s)) TableRefusal 0 (λ r. verdictNumber (reading_by r).verdict) (λ r. [])
  -- and that answer says both the verdict on the bytes and the table that they hold
  pub reads : (s : List ℕ) {r : Result Table Fault} → r ≡ outcome_of (read_table s) → read_table s ≡ reading_by r
  -- `windows::latency`, `misses::misses`
  pub latency : (s : List ℕ) (id : ℕ) → Query (λ a. a ≡ latency_of s id) LatencyRefusal 4 number_of latency_figures
  pub misses : (s : List ℕ) (id k : ℕ) → Query (λ a. a ≡ misses_of s id k) MissesRefusal 1 number_of one_value
  -- `misses::misses_plain`, `misses::at_most`
  pub misses_plain : (s : List ℕ) (id k : ℕ) → Query (λ a. a ≡ misses_of s id k) MissesRefusal 1 number_of one_value
  pub at_most : (s : List ℕ) (id k : ℕ) → Query (λ a. a ≡ at_most_of s id k) MissesRefusal 1 number_of atMostFigures
  -- `segments::segment`, `segments::segment_part`
  pub segment : (s : List ℕ) (id against number : ℕ) → Query (λ a. a ≡ segment_of s id against number) SegmentRefusal 2 number_of part_values
  pub part : (table : Bor (List ℕ)) (id against number : ℕ) → OnePart table (segment_of table.now id against number)
  -- `saving::save`
  pub save : (buffer : List ℕ) (used : ℕ) (old new : List ℕ) → Call (λ after a. Saves buffer used old new a after) SaveRefusal number_of buffer
  -- `merging::merge`, `merging::conflict`, `merging::chosen`
  pub merge : (v : Versions) (buffer : List ℕ) → Call (λ after a. Merges v buffer a after) MergeRefusal mergeNumber buffer
  pub conflict : (v : Versions) (above : ℕ) → Query (λ a. a ≡ found_of v above) TableRefusal 1 number_of one_value
  pub chosen : (ancestor first second : Bor (List ℕ)) (id : ℕ) → OneChosen ancestor first second id
  -- `writing::write`, of rows as a program has them, and `writing::read`
  pub write : (rs : List Row) → All Typed rs → (buffer : List ℕ) → Call (λ after a. Writes rs buffer a after) WriteRefusal number_of buffer
  pub read_rows : (s : List ℕ) (before : List Row) → Call (λ after a. Fills s before a after) ReadRefusal number_of before
  -- `slices::record`
  pub record_place : (s : List ℕ) (id : ℕ) → Query (λ a. a ≡ located_of s id) RecordRefusal 2 number_of part_values
  -- `converting::to_largest`, `converting::to_gap`
  pub convert : (to : To) (s buffer : List ℕ) → Bytes s → Call (λ after a. Converts to s buffer a after) ConvertRefusal number_of buffer
  -- `salvaging::salvage`, which is lent two slices to be written
  pub salvage : (s table list : List ℕ)
      → Call {A = List ℕ × List ℕ} (λ after a. Salvages s table list a after.0 after.1) SalvageRefusal number_of (table, list)
  -- `report_text::report`
  pub report : (s before : List ℕ) → OneResult (Reported s before)
  -- `mishtodran_latency`, `mishtodran_misses`, `mishtodran_misses_plain`, `mishtodran_misses_at_most`, `mishtodran_record`, `mishtodran_segment`
  pub latency_entry : (s : List ℕ) (id : ℕ) (before : List ℕ) → Call (LatencyEntry s id before) (AtEntry LatencyRefusal) (λ r. r) before
  pub misses_entry : (s : List ℕ) (id k : ℕ) (before : List ℕ) → Call (MissesEntry s id k before) (AtEntry MissesRefusal) (λ r. r) before
  pub plain_entry : (s : List ℕ) (id k : ℕ) (before : List ℕ) → Call (PlainEntry s id k before) (AtEntry MissesRefusal) (λ r. r) before
  pub at_most_entry : (s : List ℕ) (id k : ℕ) (before : List ℕ) → Call (AtMostEntry s id k before) (AtEntry MissesRefusal) (λ r. r) before
  pub record_entry : (s : List ℕ) (id : ℕ) (before : List ℕ) → Call (RecordEntry s id before) (AtEntry RecordRefusal) (λ r. r) before
  pub segment_entry : (s : List ℕ) (id against number : ℕ) (before : List ℕ) → Call (SegmentEntry s id against number before) (AtEntry SegmentRefusal) (λ r. r) before
  -- `mishtodran_conflict`
  pub conflict_entry : (v : Versions) (above : ℕ) (before : List ℕ) → Call (ConflictEntry v above before) (AtEntry TableRefusal) (λ r. r) before
  -- `mishtodran_save`, `mishtodran_merge`, `mishtodran_write`, `mishtodran_read`, `mishtodran_to_largest`, `mishtodran_to_gap` and
  -- `mishtodran_report`, which are lent two slices to be written
  pub save_entry : (buffer : List ℕ) (used : ℕ) (old new answer : List ℕ)
      → Call {A = List ℕ × List ℕ} (λ after r. SaveEntry buffer used old new answer after.0 after.1 r) (AtEntry SaveRefusal) (λ r. r) (buffer, answer)
  pub merge_entry : (v : Versions) (buffer answer : List ℕ)
      → Call {A = List ℕ × List ℕ} (λ after r. MergeEntry v buffer answer after.0 after.1 r) (AtEntry MergeRefusal) (λ r. r) (buffer, answer)
  pub write_entry : (rs : List Row) → All Typed rs → (buffer answer : List ℕ)
      → Call {A = List ℕ × List ℕ} (λ after r. WriteEntry rs buffer answer after.0 after.1 r) (AtEntry WriteRefusal) (λ r. r) (buffer, answer)
  pub read_rows_entry : (s : List ℕ) (rs : List Row) (answer : List ℕ)
      → Call {A = List Row × List ℕ} (λ after r. ReadEntry s rs answer after.0 after.1 r) (AtEntry ReadRefusal) (λ r. r) (rs, answer)
  pub convert_entry : (to : To) (s : List ℕ) → Bytes s → (buffer answer : List ℕ)
      → Call {A = List ℕ × List ℕ} (λ after r. ConvertEntry to s buffer answer after.0 after.1 r) (AtEntry ConvertRefusal) (λ r. r) (buffer, answer)
  pub report_entry : (s text answer : List ℕ)
      → Call {A = List ℕ × List ℕ} (λ after r. ReportEntry s text answer after.0 after.1 r) (AtEntry ReportRefusal) (λ r. r) (text, answer)
  -- `mishtodran_salvage`, which is lent three
  pub salvage_entry : (s table list answer : List ℕ)
      → Call {A = (List ℕ × List ℕ) × List ℕ} (λ after r. SalvageEntry s table list answer after.0.0 after.0.1 after.1 r) (AtEntry SalvageRefusal) (λ r. r) ((table, list), answer)
  -- `mishtodran_check`, which no table refuses
  pub check_entry : (s before : List ℕ) → Call (CheckEntry s before) (AtEntry CheckRefusal) (λ r. r) before
  -- `mishtodran_version`, which takes nothing
  pub version_entry : {r q : ℕ} → r ≡ version → q ≡ version → r ≡ q
