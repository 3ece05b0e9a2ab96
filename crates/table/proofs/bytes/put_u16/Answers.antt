-- Two stores in a row are the two bytes.
use Prim.Native.Nat.{suc, ◌+◌}
use mathlib.Core.Path.{◌≡◌}
use lib.ListN.{length-set}
use lib.Seq.{sets-eq}
use Rattle.table.specs.Bytes.{bytes_of}
use native.Mathlib.Omega.{arith}
use Rattle.table.proofs.bytes.put_u16.Goals as goal

pub bounds-s-at-2 : goal.bounds-s-at-2
bounds-s-at-2 c = simp length-set (omega arith)

pub returns : goal.returns
unfolding bytes_of
returns c = let a = c.args in
    let one : a.at + 1 ≡ suc a.at = omega arith in
    rw one (sets-eq (bytes_of 2 a.x) a.s.now a.at c.requires)
