-- A stored table, read from the first byte; the first fault decides, its number (01, 'Stored table'; 02, request 7) and its place (02,
-- request 1).
use Rattle.std.specs.Prelude.{ℕ, zero, suc, ◌+◌, List, ◌||◌, length, set, replicate, ltb, eqb, Ok, Err, ⊤}
use Rattle.search.specs.Choice.{◌when◌else◌}
use Rattle.table.specs.Limits.{max_chains, max_bytes, max_gap_bytes}
use Rattle.table.specs.Bytes.{word}
use Rattle.table.specs.Record.{largest_form, form_at, blank, row_at, length_at}
use Rattle.table.specs.Fault.{mark_of, beside_fault, end_fault}
use Rattle.table.specs.declared.Row.{Row}
use Rattle.table.specs.declared.Table.{Table}
use Rattle.table.specs.declared.Mark.{Mark}
use Rattle.table.specs.declared.Mark.TheVariants.{Chain, Task, End, Unknown}
use Rattle.std.specs.declared.result.Result.{Result}
use Rattle.table.specs.Refusal.{Verdict, answering}
use Rattle.table.specs.declared.refusal.Fault.{Fault}
use Rattle.table.specs.declared.refusal.Refusal.{Refusal}
use Rattle.table.specs.declared.refusal.Refusal.TheVariants.{BadLength, BytesMissing, BadMark, BadChainCount}

-- the table without a chain
abbrev pub empty : Table
empty = record { count = 0; tasks = 0; row = replicate max_chains blank }

-- the table with one row more
abbrev pub plus : Table → Row → Table
plus t r = record { count = t.count + 1; tasks = t.tasks + r.tasks; row = set t.row t.count r }

-- the place of the fault, 0 where there is none
abbrev pub fault_place : Verdict → ℕ
fault_place (Ok u) = 0
fault_place (Err f) = f.1

-- the verdict on some bytes, and the table that they hold; a refusal carries the empty table
pub record Reading : Type 0 where
  pub verdict : Verdict
  pub table : Table

-- a fault refuses, each answer in its own way; where there is none, what follows
unfoldable pub unless : {A : Type 0} → (Refusal → ℕ → A) → Verdict → A → A
unless refuse (Ok u) rest = rest
unless refuse (Err f) rest = refuse f.0 f.1

-- a refused table refuses every query for the same reason, each in its own way; an accepted one is asked
abbrev pub by_verdict : {A : Type 0} → (Refusal → A) → Verdict → A → A
by_verdict refuse (Ok u) answer = answer
by_verdict refuse (Err f) answer = refuse f.0

abbrev pub refusal : Refusal → ℕ → Reading
refusal n place = record { verdict = Err (n, place); table = empty }

abbrev pub accepted : Table → Reading
accepted t = record { verdict = Ok tt; table = t }

-- what a mark at a record's start, `at`, leads to; a task is not known there
abbrev pub by_mark : ℕ → Mark → Reading → Reading → Reading
by_mark at Chain chain end = chain
by_mark at End chain end = end
by_mark at Task chain end = refusal BadMark at
by_mark at Unknown chain end = refusal BadMark at

-- the record that starts at `at`, after the rows of t, where `next` is what a chain beside them leads to; its form is the first record's
unfoldable pub start : List ℕ → ℕ → Table → Reading → Reading
start s at t next =
    refusal BytesMissing (length s) when ltb (length s) (at + 2) else
    by_mark at (mark_of (word 2 s at)) (unless refusal (beside_fault s at (form_at s 0) t) next) (unless refusal (end_fault s at t) (accepted t))

-- the records from `at` on, after the rows of t, with room for `left` chains more; where there is none, a chain is one too many and leads
-- nowhere
unfoldable pub records : ℕ → List ℕ → ℕ → Table → Reading
records zero s at t = start s at t (refusal BadChainCount at)
records (suc left) s at t = start s at t (records left s (at + length_at s at) (plus t (row_at s at)))

-- how many bytes a table may have, by its first mark
unfoldable pub limit_of : ℕ → ℕ
limit_of mark = max_bytes when eqb mark largest_form else max_gap_bytes

-- 1 where there is no byte or are too many; else the records from the first byte on
unfoldable pub read_table : List ℕ → Reading
read_table s = refusal BadLength 0 when eqb (length s) 0 || ltb (limit_of (word 2 s 0)) (length s) else records max_chains s 0 empty

-- the table that the bytes hold
abbrev pub table_of : List ℕ → Table
table_of s = (read_table s).table

-- the refusal of a verdict without its place
abbrev pub refused_by : Verdict → Result ⊤ Refusal
refused_by (Ok u) = Ok tt
refused_by (Err f) = Err f.0

-- the table alone where it is accepted, else the first fault
abbrev pub outcome_of : Reading → Result Table Fault
outcome_of r = answering r.verdict r.table
