-- By the weights of the kept combination `last` and of those before it.
use Prim.Native.Nat.{◌*◌, ◌-◌, ◌≤◌, ◌<◌}
use mathlib.Core.Path.{◌≡◌, ◌∙◌}
use native.Mathlib.Omega.{arith}
use native.Mathlib.Nat.{mul-le-mul, div-le_self}
use Rattle.packing.specs.Packing.{bit}
use Rattle.packing.specs.Code.Engine.{nth, weight, max_room, max_weight}
use Rattle.packing.proofs.Cut.{weight_ext, cut-none, cut-above}
use Rattle.packing.proofs.Tries.{choices_less}
use Rattle.packing.proofs.lower_choices.Goals as goal
use Rattle.packing.proofs.lower_choices.Goals.{After-floor-d}

-- what the kept combination `last` weighs, by its bits
weighs : (c : After-floor-d) → c.weigh-w.result ≡ weight c.args.shares.now c.args.v (λ i. bit i (nth c.args.kept.now c.args.wanted.last))
weighs c = c.weigh-w.ensures.0 ∙ weight_ext _ _ _ _ c.bits.ensures

-- `need` times d is small
few : (c : After-floor-d) → c.args.wanted.need * c.floor-d.result ≤ max_room * max_weight
few c = let d : c.floor-d.result ≤ max_weight = omega (arith, c.floor-d.ensures.1, c.weigh-w.ensures.1) in
    mul-le-mul c.requires.2 d

pub overflow_mul-need : goal.overflow_mul-need
overflow_mul-need c = omega (arith, few (goal.at.overflow_mul-need c).After-floor-d)

pub returns-then-all-need : goal.returns-then-all-need
returns-then-all-need c = choices_less (omega arith)
    (λ u p t. absurd (cut-none c.floor-d.ensures.0 (weighs (goal.at.returns-then-all-need c).After-floor-d) c.weigh-all.ensures.0 u p t (omega (arith, c.floor-d.ensures.1)) (omega (arith, c.if-all-need.true))))
    c.requires.3

pub overflow_mul-need-2 : goal.overflow_mul-need-2
overflow_mul-need-2 c = omega (arith, few (goal.at.overflow_mul-need-2 c).After-floor-d)

pub overflow_add-all : goal.overflow_add-all
overflow_add-all c = let room = c.weigh-all in
    let q = div-le_self (room.result - c.args.wanted.need * c.floor-d.result) (c.weigh-w.result - c.floor-d.result) in
    omega (arith, q, room.ensures.1)

pub returns : goal.returns
returns c = choices_less (omega arith)
    (λ u p t. let own : u c.args.wanted.last < c.args.x = c.requires.3.fewer u p t in
    let above = cut-above c.floor-d.ensures.0 (weighs (goal.at.returns c).After-floor-d) c.weigh-all.ensures.0 u p t (omega (arith, c.floor-d.ensures.1, c.if-d-w.false)) c.if-all-need.false in
    omega arith)
    c.requires.3
