-- One number, or none.
use Prim.Native.Nat.{◌+◌}
use native.Mathlib.Omega.{arith}
use mathlib.Core.Path.{sym, subst}
use lib.ListN.{get_or}
use borrow.Author.Tests.{lt-ltb, le-ltb}
use Rattle.search.proofs.Choice.{when_yes, when_no}
use Rattle.slices.specs.Code.Wrote.{Wrote}
use Rattle.slices.proofs.Writes.{wrote_none, wrote_number}
use Rattle.writing.proofs.put.put_distance.Goals as goal

pub returns-then-i-n : goal.returns-then-i-n
returns-then-i-n c = let a = c.args in
    let p = c.put_u32 in
    subst (λ text. Wrote a.out.now a.at text p.new.s (a.at + 4)) (sym (when_yes _ _ (lt-ltb _ _ c.if-i-n.true)))
    (wrote_number a.out.now a.at 4 (get_or a.list.now a.i 0) p.new.s (a.at + 4) (omega arith) (omega (arith, c.requires.1, c.if-i-n.true)) p.ensures)

pub returns-else-i-n : goal.returns-else-i-n
returns-else-i-n c = let a = c.args in
    subst (λ text. Wrote a.out.now a.at text a.out.now a.at) (sym (when_no _ _ (le-ltb _ _ c.if-i-n.false))) (wrote_none a.out.now a.at (omega (arith, c.requires.1)))
