-- By what is tried: fewer uses of the last kept combination come into question with each turn. The measure is n.
use Prim.Native.Nat.{◌-◌}
use mathlib.Core.Path.{sym, subst}
use native.Mathlib.Omega.{arith}
use Rattle.packing.specs.Code.Engine.{HasRoom}
use Rattle.search.proofs.Choice.{tells-so, tells-not}
use Rattle.packing.proofs.Tries.{none-fit, empty-fit, choices_tried, choices_end, choices_found}
use Rattle.packing.proofs.+has_room.Goals as goal

pub returns-then-need-eq0 : goal.returns-then-need-eq0
returns-then-need-eq0 t c = tells-so (subst (HasRoom _ _ _) (sym c.if-need-eq0.true) (none-fit _ _ _))

pub returns-then-n-eq0 : goal.returns-then-n-eq0
returns-then-n-eq0 t c = tells-not (λ h. c.if-need-eq0.false (empty-fit c.if-n-eq0.true h))

pub returns-then-has_room : goal.returns-then-has_room
returns-then-has_room t c =
    let l = c.loop-uses in
    tells-so (choices_found (l.uses - 1) _
    (omega (arith, c.if-n-eq0.false))
    (omega (arith, l.invariant.few, c.loop-uses-test.true))
    (l.invariant.enough (l.uses - 1) (omega (arith, c.loop-uses-test.true)))
    c.spend.ensures
    (c.has_room.ensures.so c.if-has_room.true))

pub loop-uses-preserved : goal.loop-uses-preserved
loop-uses-preserved t c =
    choices_tried _ (omega arith) (omega (arith, c.loop-uses-test.true)) c.spend.ensures (c.has_room.ensures.not c.if-has_room.false) c.loop-uses.invariant

pub returns : goal.returns
returns t c = tells-not (choices_end (omega (arith, c.if-n-eq0.false)) c.loop-uses-test.false c.loop-uses.invariant)
