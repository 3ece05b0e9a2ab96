-- As many of the first i distances as there are before the last are put; then the last.
use Prim.Native.Nat.{min, ◌+◌, ◌-◌}
use native.Mathlib.Omega.{arith}
use mathlib.Core.Path.{◌≡◌, subst}
use lib.ListN.{get_or}
use Rattle.slices.specs.Code.Wrote.{Wrote}
use Rattle.slices.proofs.Writes.{wrote_none, wrote_number}
use Rattle.writing.specs.Rows.{distance_bytes, list_bytes}
use Rattle.writing.proofs.Pieces.{list_length}
use Rattle.writing.proofs.Puts.{pieces_none, pieces-on, distances-on}
use Rattle.writing.proofs.put.put_list.Goals as goal

pub loop-i-init : goal.loop-i-init
loop-i-init c = let a = c.args in
    let e : min 0 (a.n - 1) ≡ 0 = omega arith in
    rw (e, pieces_none (distance_bytes a.list.now)) (wrote_none a.out.now a.at (omega arith))

pub put_distance-next-requires : goal.put_distance-next-requires
put_distance-next-requires c = let l = c.loop-i in
    (omega (arith, c.requires.1), omega (arith, c.requires.0, c.requires.2, l.invariant.long, l.invariant.ends, list_length c.args.list.now (min l.i (c.args.n - 1))))

pub loop-i-preserved : goal.loop-i-preserved
loop-i-preserved c = let a = c.args in
    let l = c.loop-i in
    distances-on a.list.now (a.n - 1) l.i l.invariant c.put_distance-next.ensures

pub put_u32-requires : goal.put_u32-requires
put_u32-requires c = let l = c.loop-i in
    omega (arith, c.requires.0, c.requires.1, c.requires.2, l.invariant.long, l.invariant.ends, list_length c.args.list.now (min l.i (c.args.n - 1)))

pub overflow_add-result : goal.overflow_add-result
overflow_add-result c = let l = c.loop-i in
    omega (arith, c.requires.0, c.requires.1, c.requires.2, l.invariant.long, l.invariant.ends, list_length c.args.list.now (min l.i (c.args.n - 1)))

-- the last after the others
pub returns : goal.returns
returns c = let a = c.args in
    let l = c.loop-i in
    let p = c.put_u32 in
    let d = distance_bytes a.list.now in
    let e : min l.i (a.n - 1) ≡ a.n - 1 = omega (arith, c.requires.1) in
    let f : a.n - 1 + 1 ≡ a.n = omega (arith, c.requires.0) in
    let w = subst (λ k. Wrote a.out.now a.at (list_bytes a.list.now k) l.out l.next) e l.invariant in
    let v = wrote_number l.out l.next 4 (get_or a.list.now (a.n - 1) 0) p.new.s (l.next + 4) (omega arith)
    (omega (arith, c.requires.0, c.requires.2, w.long, w.ends, list_length a.list.now (a.n - 1))) p.ensures in
    subst (λ k. Wrote a.out.now a.at (list_bytes a.list.now k) p.new.s (l.next + 4)) f (pieces-on d (a.n - 1) w v)
