-- The loop's invariant: the sets below m have their prices.
use mathlib.Core.Path.{sym, ◌∙◌}
use mathlib.Core.Logic.{⊎_elim}
use native.Mathlib.Omega.{arith}
use Rattle.search.proofs.Choice.{lt_or_le}
use Rattle.misses.proofs.Prices.{price-past}
use Rattle.misses.proofs.Fills.{filled_none, filled_on}
use Rattle.misses.proofs.pricing.prices.Goals as goal

pub sets_of-sets-requires : goal.sets_of-sets-requires
sets_of-sets-requires c = c.requires.few

pub loop-m-init : goal.loop-m-init
loop-m-init c = filled_none _ 64

pub price-requires : goal.price-requires
price-requires c = let p = c.requires in
    (p.few, omega (arith, c.sets_of-sets.ensures.0), p.cheap)

pub loop-m-preserved : goal.loop-m-preserved
loop-m-preserved c = let l = c.loop-m in
    filled_on _ _ l.out l.m c.price.result l.invariant (omega arith) c.price.ensures

pub returns : goal.returns
returns c m h = let l = c.loop-m in
    let sets = c.sets_of-sets.ensures in
    let p = c.args.p in
    ⊎_elim
    (l.invariant.each m)
    (λ past. l.invariant.rest m past h ∙ sym (price-past p.chain p.segment p.cost p.count m (omega (arith, sets.0))))
    (lt_or_le m l.m)
