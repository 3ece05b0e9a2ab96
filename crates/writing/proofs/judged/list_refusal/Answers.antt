-- None of the first i distances falls; at each return the tests so far, in order.
use Prim.Native.Nat.{ℕ, ◌+◌}
use native.Mathlib.Omega.{arith}
use mathlib.Core.Path.{◌≡◌, sym, subst, ◌∙◌}
use mathlib.Core.Bool.{◌||◌}
use mathlib.Core.List.{List}
use lib.ListN.{get_or, take}
use borrow.Author.Tests.{lt-ltb, eq-eqb, ne_eqb}
use Rattle.search.specs.Choice.{◌when◌else◌}
use Rattle.search.proofs.Choice.{when_yes}
use Rattle.std.specs.declared.result.Result.TheVariants.{Ok, Err}
use Rattle.table.specs.Fault.{fall_fault}
use Rattle.table.specs.Read.{refused_by}
use Rattle.table.specs.declared.refusal.Refusal.TheVariants.{BadDistance}
use Rattle.writing.specs.Code.Tally.{list_refusal}
use Rattle.writing.proofs.Faults.{list-falls, Passed, passed_none, passed-stop, passed_on, passed-all, passed-number}
use Rattle.writing.proofs.judged.list_refusal.Goals as goal

pub loop-i-init : goal.loop-i-init
loop-i-init c = passed_none _ _ _

-- a fall decides
fallen : (gap : ℕ) (ds : List ℕ) → refused_by (fall_fault 0 ds 0) ≡ Err BadDistance → Err BadDistance ≡ list_refusal gap ds
fallen gap ds e = sym (list-falls gap ds e)

pub returns-then-d-before : goal.returns-then-d-before
returns-then-d-before c = let a = c.args in
    let l = c.loop-i in
    fallen a.gap (take a.n a.list.now) (passed-stop l.invariant (omega (arith, c.requires)) (omega arith) c.if-d-before.true)

pub loop-i-preserved : goal.loop-i-preserved
loop-i-preserved c = let a = c.args in
    let l = c.loop-i in
    let p = passed_on l.invariant (omega (arith, c.requires)) (omega arith) c.if-d-before.false in
    subst (λ b. Passed a.gap a.list.now a.n (l.short || b) (get_or a.list.now l.i 0) (l.i + 1)) (sym c.beyond-short.ensures) p

pub returns-then-before-gt-DISTANCE : goal.returns-then-before-gt-DISTANCE
returns-then-before-gt-DISTANCE c = let a = c.args in
    let l = c.loop-i in
    let e : l.i ≡ a.n = omega arith in
    fallen a.gap (take a.n a.list.now) (passed-all l.invariant (omega (arith, c.requires)) e ∙ when_yes (Err BadDistance) (Ok tt) (lt-ltb _ _ c.if-before-gt-DISTANCE.true))

pub returns-then-before-eq0 : goal.returns-then-before-eq0
unfolding ◌when◌else◌
returns-then-before-eq0 c = let a = c.args in
    let l = c.loop-i in
    let e : l.i ≡ a.n = omega arith in
    rw (passed-number l.invariant (omega (arith, c.requires)) e c.requires.0 c.if-before-gt-DISTANCE.false, eq-eqb _ _ c.if-before-eq0.true)

pub returns-then-gap-eq0 : goal.returns-then-gap-eq0
unfolding ◌when◌else◌
returns-then-gap-eq0 c = let a = c.args in
    let l = c.loop-i in
    let e : l.i ≡ a.n = omega arith in
    rw (passed-number l.invariant (omega (arith, c.requires)) e c.requires.0 c.if-before-gt-DISTANCE.false, ne_eqb _ _ c.if-before-eq0.false, eq-eqb _ _ c.if-gap-eq0.true)

pub returns-then-short : goal.returns-then-short
unfolding ◌when◌else◌
returns-then-short c = let a = c.args in
    let l = c.loop-i in
    let e : l.i ≡ a.n = omega arith in
    rw (passed-number l.invariant (omega (arith, c.requires)) e c.requires.0 c.if-before-gt-DISTANCE.false, ne_eqb _ _ c.if-before-eq0.false, ne_eqb _ _ c.if-gap-eq0.false, c.if-short.true)

pub returns : goal.returns
unfolding ◌when◌else◌
returns c = let a = c.args in
    let l = c.loop-i in
    let e : l.i ≡ a.n = omega arith in
    rw (passed-number l.invariant (omega (arith, c.requires)) e c.requires.0 c.if-before-gt-DISTANCE.false, ne_eqb _ _ c.if-before-eq0.false, ne_eqb _ _ c.if-gap-eq0.false, c.if-short.false)
