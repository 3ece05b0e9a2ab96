-- Four stores in a row are the four bytes.
use Prim.Native.Nat.{suc, ◌+◌}
use mathlib.Core.Path.{◌≡◌}
use lib.ListN.{length-set}
use lib.Seq.{sets-eq}
use Rattle.table.specs.Bytes.{bytes_of}
use native.Mathlib.Omega.{arith}
use Rattle.table.proofs.bytes.put_u32.Goals as goal

pub bounds-s-at-2 : goal.bounds-s-at-2
bounds-s-at-2 c = simp length-set (omega arith)

pub bounds-s-at-3 : goal.bounds-s-at-3
bounds-s-at-3 c = simp length-set (omega arith)

pub bounds-s-at-4 : goal.bounds-s-at-4
bounds-s-at-4 c = simp length-set (omega arith)

pub returns : goal.returns
unfolding bytes_of
returns c = let a = c.args in
    let one : a.at + 1 ≡ suc a.at = omega arith in
    let two : a.at + 2 ≡ suc (suc a.at) = omega arith in
    let three : a.at + 3 ≡ suc (suc (suc a.at)) = omega arith in
    rw (one, two, three) (sets-eq (bytes_of 4 a.x) a.s.now a.at c.requires)
