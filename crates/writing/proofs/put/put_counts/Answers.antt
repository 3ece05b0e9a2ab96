-- One number of two bytes.
use Prim.Native.Nat.{◌+◌, ◌*◌}
use native.Mathlib.Omega.{arith}
use mathlib.Core.Path.{subst}
use Rattle.slices.specs.Code.Wrote.{Wrote}
use Rattle.slices.proofs.Writes.{wrote_number}
use Rattle.writing.proofs.Puts.{count-bytes}
use Rattle.writing.proofs.put.put_counts.Goals as goal

pub returns : goal.returns
returns c = let a = c.args in
    let p = c.put_u16 in
    subst (λ text. Wrote a.out.now a.at text p.new.s (a.at + 2)) (count-bytes a.listed a.tasks c.requires.0 c.requires.1)
    (wrote_number a.out.now a.at 2 (a.listed + 256 * a.tasks) p.new.s (a.at + 2) (omega arith) (omega (arith, c.requires.2)) p.ensures)
