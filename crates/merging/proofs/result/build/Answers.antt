-- The end record is put after the records, as one number of four bytes.
use Prim.Native.Nat.{ℕ, ◌+◌, ◌*◌}
use mathlib.Core.Path.{refl, ap, ◌∙◌}
use mathlib.Core.List.{List, ◌++◌, flatten}
use lib.ListN.{length, take, drop}
use lib.Seq.{take_at}
use native.Mathlib.Omega.{arith}
use Rattle.table.specs.Bytes.{bytes_of}
use Rattle.table.specs.Record.{end_record}
use Rattle.merging.specs.Merge.{versions}
use Rattle.merging.specs.Code.Size.{states_of}
use Rattle.table.proofs.Words.{end-bytes}
use Rattle.merging.proofs.result.build.Goals as goal

pub put_records-end-requires : goal.put_records-end-requires
put_records-end-requires c = (c.requires.0, omega (arith, c.requires.1))

pub overflow_cast-records : goal.overflow_cast-records
overflow_cast-records c = omega (arith, c.requires.2)

pub overflow_mul-records : goal.overflow_mul-records
overflow_mul-records c = omega (arith, c.requires.2)

pub overflow_add-records : goal.overflow_add-records
overflow_add-records c = omega (arith, c.requires.2)

pub put_u32-requires : goal.put_u32-requires
put_u32-requires c = omega (arith, c.put_records-end.ensures.all, c.put_records-end.ensures.long, c.requires.1)

pub returns : goal.returns
returns c = let w = c.put_records-end in
    let records = flatten (states_of (versions c.args.ancestor c.args.first c.args.second) c.args.ids.now) in
    let all = records ++ end_record c.args.records in
    let after = c.put_u32.ensures ∙ ap (λ (l : List ℕ). l ++ bytes_of 4 (20037 + 65536 * c.args.records) ++ drop (w.result + 4) w.new.out) w.ensures.first
    ∙ ap (λ (l : List ℕ). records ++ l ++ drop (w.result + 4) w.new.out) (end-bytes c.args.records) in
    record { first = ap (take (length all)) after ∙ take_at all (drop (w.result + 4) w.new.out) (length all) refl }
