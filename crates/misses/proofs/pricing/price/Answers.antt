-- The loop's invariant (`Priced`): the sum is what those of the set before i cost, and they may stand together with all others.
use mathlib.Core.Path.{sym, ◌∙◌}
use native.Mathlib.Omega.{arith}
use Rattle.misses.proofs.Prices.{priced_none, priced_out, priced_in, priced_never, priced_all}
use Rattle.misses.proofs.pricing.price.Goals as goal
use Rattle.misses.proofs.pricing.price.Goals.{then-has-eq1+else-not-agrees_with_all, else-has-eq1}

pub loop-i-init : goal.loop-i-init
loop-i-init c = priced_none _ _ _ _ _

pub returns-then-not-agrees_with_all : goal.returns-then-not-agrees_with_all
returns-then-not-agrees_with_all c = let a = c.args in
    sym (priced_never a.chain.now a.segment.now a.cost.now a.n a.m c.loop-i.sum c.loop-i.i c.loop-i.invariant (omega arith) (sym c.has.ensures ∙ c.if-has-eq1.true)
    (sym (c.if-not-agrees_with_all.true) ∙ c.agrees_with_all.ensures a.cost.now))

pub overflow_add-sum : goal.overflow_add-sum
overflow_add-sum c = omega (arith, c.loop-i.invariant.fits, c.requires.2 c.loop-i.i)

pub loop-i-preserved : goal.loop-i-preserved
loop-i-preserved c = let a = c.args in
    let l = c.loop-i in
    elim c.if-has-eq1.branch [
      | then-has-eq1+else-not-agrees_with_all w ↦ rw w.sum-is (priced_in a.chain.now a.segment.now a.cost.now a.n a.m l.sum l.i l.invariant c.loop-i-test.true (sym c.has.ensures ∙ w.if-has-eq1.true) (c.requires.2 l.i)
          (sym (w.if-not-agrees_with_all.false) ∙ w.agrees_with_all.ensures a.cost.now))
      | else-has-eq1 w ↦ rw w.sum-is (priced_out a.chain.now a.segment.now a.cost.now a.n a.m l.sum l.i l.invariant c.loop-i-test.true (λ e. w.if-has-eq1.false (c.has.ensures ∙ e)))
    ]

pub returns : goal.returns
returns c = let a = c.args in
    priced_all a.chain.now a.segment.now a.cost.now a.n a.m c.loop-i.sum c.loop-i.i c.loop-i.invariant (omega arith) c.requires.1
