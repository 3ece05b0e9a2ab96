-- None, or the list.
use native.Mathlib.Omega.{arith}
use mathlib.Core.Path.{◌≡◌, sym, subst, ◌∙◌}
use Rattle.slices.specs.Code.Wrote.{Wrote}
use Rattle.slices.proofs.Writes.{wrote_none}
use Rattle.table.specs.Record.{known_of}
use Rattle.table.proofs.Widths.{known-most}
use Rattle.writing.specs.Rows.{distance_bytes, list_bytes}
use Rattle.writing.proofs.Puts.{pieces_none}
use Rattle.writing.proofs.put.put_largest.Goals as goal

pub returns-then-known-eq0 : goal.returns-then-known-eq0
returns-then-known-eq0 c = let a = c.args in
    let none : known_of a.row ≡ 0 = sym c.known_of-known.ensures ∙ c.if-known-eq0.true in
    rw (none, pieces_none (distance_bytes a.row.largest)) (wrote_none a.out.now a.at (omega (arith, c.requires.1)))

pub put_list-requires : goal.put_list-requires
put_list-requires c = let r = c.args.row in
    let e = c.known_of-known.ensures in
    (omega (arith, c.if-known-eq0.false), omega (arith, e, known-most r.form r.flag r.listed, c.requires.0), omega (arith, e, c.requires.1))

pub returns : goal.returns
returns c = let a = c.args in
    let p = c.put_list in
    subst (λ n. Wrote a.out.now a.at (list_bytes a.row.largest n) p.new.out p.result) c.known_of-known.ensures p.ensures
