-- The rule, test by test.
use mathlib.Core.Path.{◌≡◌, ap, sym, ◌∙◌}
use Rattle.slices.specs.Slices.{same}
use Rattle.merging.specs.Versions.{state_of}
use Rattle.merging.proofs.Seeks.{first_record}
use Rattle.merging.proofs.Rules.{by_alike, by-second, by_first, by_neither}
use Rattle.merging.proofs.states.side_taken.Goals as goal
use Rattle.merging.proofs.states.side_taken.Goals.{After-same-2, After-same-3}

-- what the comparisons with the ancestor's say of the states
unchanged : (c : After-same-2) → same c.args.in_first.now (state_of c.args.ancestor.now c.args.id) ≡ c.same-2.result
unchanged c = ap (same c.args.in_first.now) (sym c.state-was.ensures.bytes) ∙ sym c.same-2.ensures

left_alone : (c : After-same-3) → same c.args.in_second.now (state_of c.args.ancestor.now c.args.id) ≡ c.same-3.result
left_alone c = ap (same c.args.in_second.now) (sym c.state-was.ensures.bytes) ∙ sym c.same-3.ensures

pub state-was-requires : goal.state-was-requires
state-was-requires c = (c.requires, first_record c.args.ancestor.now)

pub returns-then-same : goal.returns-then-same
returns-then-same c = sym (by_alike _ _ _ _ _ _ (sym c.same.ensures ∙ c.if-same.true))

pub returns-then-same-2 : goal.returns-then-same-2
returns-then-same-2 c =
    let here = (goal.at.returns-then-same-2 c).After-same-2 in
    sym (by-second _ _ _ _ _ _ (sym c.same.ensures ∙ c.if-same.false) (unchanged here ∙ c.if-same-2.true))

pub returns-then-same-3 : goal.returns-then-same-3
returns-then-same-3 c =
    let here = goal.at.returns-then-same-3 c in
    sym (by_first _ _ _ _ _ _ (sym c.same.ensures ∙ c.if-same.false) (unchanged here.After-same-2 ∙ c.if-same-2.false) (left_alone here.After-same-3 ∙ c.if-same-3.true))

pub returns-else-same-3 : goal.returns-else-same-3
returns-else-same-3 c =
    let here = goal.at.returns-else-same-3 c in
    sym (by_neither _ _ _ _ _ _ (sym c.same.ensures ∙ c.if-same.false) (unchanged here.After-same-2 ∙ c.if-same-2.false) (left_alone here.After-same-3 ∙ c.if-same-3.false))
