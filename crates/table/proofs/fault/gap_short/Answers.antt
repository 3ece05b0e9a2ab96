-- The gap is too small for what is left where it is for the whole list.
use Prim.Native.Nat.{◌≤◌, ◌+◌, ◌*◌, ◌-◌}
use mathlib.Core.Path.{ap}
use Rattle.table.specs.Bytes.{word}
use Rattle.table.specs.Record.{spaced}
use native.Mathlib.Nat.{mul-le-mul_left}
use Rattle.table.specs.Fault.{gap_short}
use Rattle.table.proofs.Lists.{spaced-start, spaced-on, spaced-end, gap-yes, gap_no, gap-end}
use native.Mathlib.Omega.{arith}
use Rattle.table.proofs.fault.gap_short.Goals as goal

pub loop-i-init : goal.loop-i-init
loop-i-init c = (omega arith, ap (gap_short c.args.gap 1) (spaced-start (word 4 c.args.s.now) 4 c.args.n c.args.at))

pub overflow_mul-from : goal.overflow_mul-from
overflow_mul-from c = let h : c.loop-i.i + 1 ≤ 256 = omega arith in
    rw c.from.ensures (omega (arith, mul-le-mul_left c.args.gap h))

pub returns-then-from-i : goal.returns-then-from-i
returns-then-from-i c = let a = c.args in
    let l = c.loop-i in
    cc (spaced-on (word 4 a.s.now) 4 a.n l.i a.at (omega arith), gap-yes a.gap (l.i + 1) c.u32_at-d.result (spaced (word 4 a.s.now) 4 (a.n - (l.i + 1)) (a.at + 4 * (l.i + 1))) (rw (← c.from.ensures, ← c.from-in-loop-i.ensures) c.if-from-i.true))

pub loop-i-preserved : goal.loop-i-preserved
loop-i-preserved c = let a = c.args in
    let l = c.loop-i in
    (omega arith, cc (spaced-on (word 4 a.s.now) 4 a.n l.i a.at (omega arith), gap_no a.gap (l.i + 1) c.u32_at-d.result (spaced (word 4 a.s.now) 4 (a.n - (l.i + 1)) (a.at + 4 * (l.i + 1))) (rw (← c.from.ensures, ← c.from-in-loop-i.ensures) c.if-from-i.false)))

pub returns : goal.returns
returns c = let a = c.args in
    let l = c.loop-i in
    cc (spaced-end (word 4 a.s.now) 4 a.n l.i (a.at + 4 * l.i) (omega arith), gap-end a.gap (l.i + 1))
