-- The four parts one after the other.
use native.Mathlib.Omega.{arith}
use Rattle.slices.proofs.Writes.{wrote_on}
use Rattle.table.specs.Record.{known_of}
use Rattle.writing.specs.Rows.{row_bytes}
use Rattle.writing.proofs.Pieces.{head-length, list_length, row-length}
use Rattle.writing.proofs.put.put_row.Goals as goal

pub put_head-after_head-requires : goal.put_head-after_head-requires
put_head-after_head-requires c = (c.requires.form, c.requires.listed, c.requires.tasks, omega (arith, c.requires.room, row-length c.args.row))

pub put_list-after_list-requires : goal.put_list-after_list-requires
put_list-after_list-requires c = let h = c.put_head-after_head.ensures in
    (c.requires.some, c.requires.listed, omega (arith, c.requires.room, row-length c.args.row, h.ends, h.long, head-length c.args.row))

pub put_largest-after_largest-requires : goal.put_largest-after_largest-requires
put_largest-after_largest-requires c = let r = c.args.row in
    let h = c.put_head-after_head.ensures in
    let l = c.put_list-after_list.ensures in
    (c.requires.listed, omega (arith, c.requires.room, row-length r, h.ends, h.long, head-length r, l.ends, l.long, list_length r.list r.listed))

pub put_tasks-requires : goal.put_tasks-requires
put_tasks-requires c = let r = c.args.row in
    let h = c.put_head-after_head.ensures in
    let l = c.put_list-after_list.ensures in
    let g = c.put_largest-after_largest.ensures in
    (c.requires.tasks, omega (arith, c.requires.room, row-length r, h.ends, h.long, head-length r, l.ends, l.long, list_length r.list r.listed, g.ends, g.long, list_length r.largest (known_of r)))

pub returns : goal.returns
unfolding row_bytes
returns c = wrote_on
    (wrote_on
    (wrote_on c.put_head-after_head.ensures c.put_list-after_list.ensures)
    c.put_largest-after_largest.ensures)
    c.put_tasks.ensures
