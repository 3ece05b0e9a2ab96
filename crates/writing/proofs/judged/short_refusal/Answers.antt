-- None of the first i largest distances falls, is too large or lies below the smallest.
use Prim.Native.Nat.{max, ◌<◌}
use native.Mathlib.Omega.{arith}
use mathlib.Core.Path.{◌≡◌, refl, sym, ◌∙◌}
use mathlib.Core.Bool.{true}
use lib.ListN.{get_or, take}
use Rattle.std.specs.declared.result.Result.TheVariants.{Err}
use Rattle.table.specs.Limits.{max_largest}
use Rattle.table.specs.Fault.{outside, short_fault}
use Rattle.table.specs.Read.{refused_by}
use Rattle.table.specs.declared.refusal.Refusal.TheVariants.{BadLargest}
use Rattle.writing.proofs.Faults.{short-below, short-outside, short-inside, short-stop, short-next, short-done}
use Rattle.writing.proofs.judged.short_refusal.Goals as goal
use Rattle.writing.proofs.judged.short_refusal.Goals.{At-loop-i}

pub loop-i-init : goal.loop-i-init
loop-i-init c = refl

-- the next one is wrong
wrong : (c : At-loop-i) → c.loop-i.i < c.args.n
    → outside (max c.loop-i.before (get_or c.args.list.now c.loop-i.i 0)) max_largest (get_or c.args.largest.now c.loop-i.i 0) ≡ true
    → Err BadLargest ≡ refused_by (short_fault 0 (take c.args.n c.args.list.now) (take c.args.n c.args.largest.now) 0)
wrong c h e = let a = c.args in
    sym (short-stop a.list.now a.largest.now a.n (omega (arith, c.requires)) (omega (arith, c.requires)) c.loop-i.i c.loop-i.before h e) ∙ c.loop-i.invariant

pub returns-then-d-list : goal.returns-then-d-list
returns-then-d-list c = let a = c.args in
    let l = c.loop-i in
    wrong (goal.at.returns-then-d-list c).At-loop-i (omega arith) (short-below l.before (get_or a.list.now l.i 0) (get_or a.largest.now l.i 0) c.if-d-list.true)

pub returns-then-outside : goal.returns-then-outside
returns-then-outside c = let a = c.args in
    let l = c.loop-i in
    wrong (goal.at.returns-then-outside c).At-loop-i (omega arith)
    (short-outside l.before (get_or a.list.now l.i 0) (get_or a.largest.now l.i 0) (sym c.outside.ensures ∙ c.if-outside.true))

pub loop-i-preserved : goal.loop-i-preserved
loop-i-preserved c = let a = c.args in
    let l = c.loop-i in
    let right = short-inside l.before (get_or a.list.now l.i 0) (get_or a.largest.now l.i 0) c.if-d-list.false (sym c.outside.ensures ∙ c.if-outside.false) in
    sym (short-next a.list.now a.largest.now a.n (omega (arith, c.requires)) (omega (arith, c.requires)) l.i l.before (omega arith) right) ∙ l.invariant

pub returns : goal.returns
returns c = let a = c.args in
    let l = c.loop-i in
    sym (short-done a.list.now a.largest.now a.n (omega (arith, c.requires)) (omega (arith, c.requires)) l.before l.i (omega arith)) ∙ l.invariant
