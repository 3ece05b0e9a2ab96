-- Three numbers of four or two bytes, two of which hold two fields each; then the gap and the counts.
use Prim.Native.Nat.{◌+◌, ◌*◌}
use native.Mathlib.Omega.{arith}
use mathlib.Core.Path.{◌≡◌, subst}
use mathlib.Core.List.{◌++◌}
use Rattle.slices.specs.Code.Wrote.{Wrote}
use Rattle.slices.proofs.Writes.{wrote_on, wrote_number, number-on}
use Rattle.table.specs.Bytes.{bytes_of}
use Rattle.writing.specs.Rows.{gap_bytes, count_byte, head_bytes}
use Rattle.writing.proofs.Fit.{row_fits}
use Rattle.writing.proofs.Forms.{gap_length}
use Rattle.writing.proofs.Puts.{head_bytes_lem}
use Rattle.writing.proofs.put.put_head.Goals as goal

pub put_counts-requires : goal.put_counts-requires
put_counts-requires c = let r = c.args.row in
    let g = c.put_gap-after_gap.ensures in
    (c.requires.1, c.requires.2, omega (arith, c.requires.3, g.ends, g.long, gap_length r.form r.flag r.gap))

pub returns : goal.returns
returns c = let a = c.args in
    let r = a.row in
    let typed = row_fits r _ c.well_formed.1.1.0 in
    let form = c.from in
    let id = c.from-2 in
    let kind = c.from-3 in
    let overload = c.from-4 in
    let p1 = c.put_u32 in
    let p2 = c.put_u16 in
    let p3 = c.put_u32-2 in
    let counts = c.put_counts in
    let w1 = wrote_number a.out.now a.at 4 (form.result + 65536 * id.result) p1.new.s (a.at + 4) (omega arith) (omega (arith, c.requires.3)) p1.ensures in
    let w2 = number-on w1 2 (kind.result + 256 * overload.result) (a.at + 6) (omega arith) (omega (arith, c.requires.3)) p2.ensures in
    let w3 = number-on w2 4 r.deadline (a.at + 10) (omega arith) (omega (arith, c.requires.3)) p3.ensures in
    let w4 = wrote_on (wrote_on w3 c.put_gap-after_gap.ensures) counts.ensures in
    let e : bytes_of 4 (form.result + 65536 * id.result) ++ bytes_of 2 (kind.result + 256 * overload.result) ++ bytes_of 4 r.deadline ++ gap_bytes r.form r.flag r.gap
    ++ (count_byte r.listed ++ count_byte r.tasks) ≡ head_bytes r =
    rw (form.ensures, id.ensures, kind.ensures, overload.ensures)
    (head_bytes_lem r c.requires.0 typed.form typed.kind) in
    subst (λ text. Wrote a.out.now a.at text counts.new.out counts.result) e w4
