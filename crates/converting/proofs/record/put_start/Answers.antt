-- The three parts one after the other.
use Prim.Native.Nat.{◌+◌, ◌-◌}
use native.Mathlib.Omega.{arith}
use mathlib.Core.Path.{◌≡◌, ap, subst}
use mathlib.Core.List.{◌++◌}
use lib.ListN.{length, take, drop, length-take}
use Rattle.table.specs.Bytes.{bytes_of}
use Rattle.table.specs.Record.{gap_width}
use Rattle.slices.specs.Code.Wrote.{Wrote}
use Rattle.slices.proofs.Writes.{wrote_on, wrote_number}
use Rattle.writing.specs.Rows.{gap_bytes}
use Rattle.converting.specs.Code.Copied.{start_bytes}
use Rattle.converting.proofs.record.put_start.Goals as goal

pub put_gap-requires : goal.put_gap-requires
put_gap-requires c = let part = c.put_part-place.ensures in
    let e = ap gap_width c.form_of-2.ensures in
    let eight : c.args.at + 10 - (c.args.at + 2) ≡ 8 = omega arith in
    let long = ap (λ n. length (take n (drop (c.args.at + 2) c.args.s.now))) eight in
    omega (arith, c.requires.1, part.ends, part.long, e, long, length-take 8 (drop (c.args.at + 2) c.args.s.now))

pub returns : goal.returns
returns c = let a = c.args in
    let s = a.s.now in
    let part = c.put_part-place in
    let put = c.put_gap in
    let first = wrote_number a.out.now a.next 2 c.form_of.result c.put_u16.new.s (a.next + 2) (omega arith) (omega (arith, c.requires.1)) c.put_u16.ensures in
    let eight : a.at + 10 - (a.at + 2) ≡ 8 = omega arith in
    let e : bytes_of 2 c.form_of.result ++ take (a.at + 10 - (a.at + 2)) (drop (a.at + 2) s) ++ gap_bytes c.form_of-2.result c.flag_in.result c.gap_in.result ≡ start_bytes a.to s a.at =
    rw (c.form_of.ensures, eight, c.form_of-2.ensures, c.flag_in.ensures, c.gap_in.ensures) in
    subst (λ text. Wrote a.out.now a.next text put.new.out put.result) e (wrote_on (wrote_on first part.ensures) put.ensures)
