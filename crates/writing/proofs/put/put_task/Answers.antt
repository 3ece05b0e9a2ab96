-- Two numbers of four bytes, the mark and the priority in one.
use Prim.Native.Nat.{◌+◌, ◌*◌}
use native.Mathlib.Omega.{arith}
use mathlib.Core.Path.{◌≡◌, ap, subst, ◌∙◌}
use mathlib.Core.List.{◌++◌}
use Rattle.slices.specs.Code.Wrote.{Wrote}
use Rattle.table.specs.Bytes.{bytes_of}
use Rattle.table.specs.Record.{task_record}
use Rattle.slices.proofs.Writes.{wrote_number, number-on}
use Rattle.writing.proofs.Puts.{task-bytes}
use Rattle.writing.proofs.put.put_task.Goals as goal

pub returns : goal.returns
returns c = let a = c.args in
    let p = c.from in
    let m = c.put_u32 in
    let v = c.put_u32-2 in
    let e : bytes_of 4 (19284 + 65536 * p.result) ++ bytes_of 4 a.cost ≡ task_record a.priority a.cost = ap (λ n. bytes_of 4 (19284 + 65536 * n) ++ bytes_of 4 a.cost) p.ensures ∙ task-bytes a.priority a.cost in
    let marked = wrote_number a.out.now a.at 4 (19284 + 65536 * p.result) m.new.s (a.at + 4) (omega arith) (omega (arith, c.requires)) m.ensures in
    subst (λ text. Wrote a.out.now a.at text v.new.s (a.at + 8)) e (number-on marked 4 a.cost (a.at + 8) (omega arith) (omega (arith, c.requires)) v.ensures)
