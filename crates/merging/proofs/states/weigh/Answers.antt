-- The weight, by whose state is taken.
use Prim.Native.Nat.{ℕ}
use mathlib.Core.Path.{◌≡◌, ap, ◌∙◌}
use mathlib.Core.List.{List}
use lib.ListN.{length}
use Rattle.merging.specs.Versions.{state_of}
use Rattle.merging.specs.Merge.{versions}
use Rattle.merging.specs.Code.Weight.{weight, weight_of}
use Rattle.merging.specs.declared.states.Weight.{Weight}
use Rattle.merging.proofs.Sides.{of_side, by_side}
use Rattle.merging.proofs.states.weigh.Goals as goal
use Rattle.merging.proofs.states.weigh.Goals.{After-side_taken}

-- the weight of a state
abbrev of_state : List ℕ → Weight
of_state state = weight 0 (length state)

weighed : (c : After-side_taken)
    → of_side (of_state (state_of c.args.first.now c.args.id)) (of_state (state_of c.args.second.now c.args.id)) (weight c.args.id 0) c.side_taken.result
    ≡ weight_of (versions c.args.ancestor c.args.first c.args.second) c.args.id
unfolding weight_of
weighed c = by_side _ _ _ _ c.state-in_first.ensures.bytes c.state-in_second.ensures.bytes c.side_taken.ensures

pub side_taken-requires : goal.side_taken-requires
side_taken-requires c = c.requires.0.of_ancestor

pub returns-in-First : goal.returns-in-First
returns-in-First c = ap of_state c.state-in_first.ensures.bytes ∙ rw c.in-First.is at (weighed (goal.at.returns-in-First c).After-side_taken)

pub returns-in-Second : goal.returns-in-Second
returns-in-Second c = ap of_state c.state-in_second.ensures.bytes ∙ rw c.in-Second.is at (weighed (goal.at.returns-in-Second c).After-side_taken)

pub returns-in-Neither : goal.returns-in-Neither
returns-in-Neither c = rw c.in-Neither.is at (weighed (goal.at.returns-in-Neither c).After-side_taken)
