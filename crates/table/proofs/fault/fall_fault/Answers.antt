-- What is left of the list, after `before`, has the first fault of all.
use Prim.Native.Nat.{◌+◌, ◌*◌, ◌-◌}
use native.Mathlib.Omega.{arith}
use mathlib.Core.Path.{◌≡◌, ap₂, sym, ◌∙◌}
use Rattle.table.specs.Bytes.{word}
use Rattle.table.specs.Record.{spaced}
use Rattle.table.specs.Fault.{fall_fault}
use Rattle.table.proofs.Lists.{spaced-start, spaced-on, spaced-end, fall_here, fall_on, fall_end}
use Rattle.table.proofs.fault.fall_fault.Goals as goal

pub loop-i-init : goal.loop-i-init
loop-i-init c = let a = c.args in
    (omega arith, ap₂ (fall_fault 0) (spaced-start (word 4 a.s.now) 4 a.n a.at) (omega arith))

pub returns-then-outside : goal.returns-then-outside
returns-then-outside c = let a = c.args in
    let l = c.loop-i in
    cc (spaced-on (word 4 a.s.now) 4 a.n l.i a.at (omega arith), fall_here l.before c.u32_at-d.result (spaced (word 4 a.s.now) 4 (a.n - (l.i + 1)) (a.at + 4 * (l.i + 1))) (a.at + 4 * l.i) (sym c.outside.ensures ∙ c.if-outside.true))

pub loop-i-preserved : goal.loop-i-preserved
loop-i-preserved c = let a = c.args in
    let l = c.loop-i in
    let next : a.at + 4 * l.i + 4 ≡ a.at + 4 * (l.i + 1) = omega arith in
    (omega arith, cc (next, spaced-on (word 4 a.s.now) 4 a.n l.i a.at (omega arith), fall_on l.before c.u32_at-d.result (spaced (word 4 a.s.now) 4 (a.n - (l.i + 1)) (a.at + 4 * (l.i + 1))) (a.at + 4 * l.i) (sym c.outside.ensures ∙ c.if-outside.false)))

pub returns : goal.returns
returns c = let a = c.args in
    let l = c.loop-i in
    cc (spaced-end (word 4 a.s.now) 4 a.n l.i (a.at + 4 * l.i) (omega arith), fall_end l.before (a.at + 4 * l.i))
