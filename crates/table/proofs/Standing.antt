-- Where records stand: the laws of `place_of`. Assumes nothing.
use Prim.Native.Nat.{ℕ, zero, suc, ◌+◌, ◌*◌, ◌<◌, ◌≤◌}
use native.Mathlib.Omega.{arith}
use native.Mathlib.Numerals.{add-one}
use mathlib.Core.Path.{◌≡◌, refl}
use lib.ListN.{length}
use lib.Seq.{take-suc}
use Rattle.search.specs.Lists.{sum_of}
use Rattle.search.proofs.Lists.{sum_append}
use Rattle.table.specs.Limits.{max_distances, max_tasks}
use Rattle.table.specs.Record.{record_length, blank}
use Rattle.table.specs.Find.{row_of}
use Rattle.table.specs.Place.{length_of, place_of}
use Rattle.table.specs.Code.Good.{GoodRow, GoodTable}
use Rattle.table.specs.declared.Row.{Row}
use Rattle.table.specs.declared.Table.{Table}
use Rattle.table.proofs.Widths.{width-most, known-most}

pub place_none : (t : Table) → 0 ≡ place_of t 0
unfolding place_of sum_of
place_none t = refl

pub place-on : (t : Table) (chain : ℕ) → chain < length t.row → place_of t (chain + 1) ≡ place_of t chain + length_of (row_of t chain)
unfolding place_of sum_of
place-on t chain h = rw (add-one, take-suc t.row chain blank h, sum_append length_of) (omega arith)

-- no record is longer than one with the longer fixed part and as many distances, largest distances and tasks as may be
abbrev pub longest_record : ℕ
longest_record = 16 + 4 * max_distances + 4 * max_distances + 8 * max_tasks

pub record_most : {r : Row} → GoodRow r → (form flag : ℕ) → record_length form flag r.listed r.tasks ≤ longest_record
record_most {r} good form flag = omega (arith, good.list.few, good.listed, good.tasks.few, width-most form, known-most form flag r.listed)

pub place-max : (t : Table) → GoodTable t → (chain : ℕ) → chain ≤ t.count → place_of t chain ≤ longest_record * chain
place-max t good zero h = omega (arith, place_none t)
place-max t good (suc chain) h =
    let row = row_of t chain in
    rw (← add-one chain)
    (omega (arith, place-max t good chain (omega arith), place-on t chain (omega (arith, good.few, good.size)), record_most (good.row chain (omega arith)) row.form row.flag))
