-- The record, by whose state is taken.
use Prim.Native.Nat.{ℕ, ◌+◌}
use mathlib.Core.Path.{◌≡◌, ◌∙◌}
use mathlib.Core.List.{List, []}
use Rattle.std.specs.Borrow.{Bor}
use Rattle.merging.specs.Versions.{state_of, start_of}
use Rattle.merging.specs.Code.Parts.{TakenPart}
use Rattle.merging.proofs.Sides.{of_side, by_side}
use Rattle.merging.proofs.states.taken.Goals as goal
use Rattle.merging.proofs.states.taken.Goals.{After-side_taken}

-- the state of an id, where it stands in a lent table
abbrev start : Bor (List ℕ) → ℕ → ℕ × ℕ
start s id = (s.ref_ptr.0, start_of s.now id + s.ref_ptr.1)

part : (c : After-side_taken) (r : Bor (List ℕ))
    → r.now ≡ of_side (state_of c.args.first.now c.args.id) (state_of c.args.second.now c.args.id) [] c.side_taken.result
    → r.ref_ptr ≡ of_side (start c.args.first c.args.id) (start c.args.second c.args.id) c.args.first.ref_ptr c.side_taken.result
    → TakenPart c.args.ancestor c.args.first c.args.second c.args.id r
part c r bytes place =
    let in_first = c.state-in_first.ensures.bytes in
    let in_second = c.state-in_second.ensures.bytes in
    record { bytes = bytes ∙ by_side _ _ _ _ in_first in_second c.side_taken.ensures; place = place ∙ by_side _ _ _ _ in_first in_second c.side_taken.ensures }

pub side_taken-requires : goal.side_taken-requires
side_taken-requires c = c.requires.0.of_ancestor

pub returns-in-First : goal.returns-in-First
returns-in-First c = part (goal.at.returns-in-First c).After-side_taken _ (rw c.in-First.is c.state-in_first.ensures.bytes) (rw c.in-First.is c.state-in_first.ensures.place)

pub returns-in-Second : goal.returns-in-Second
returns-in-Second c = part (goal.at.returns-in-Second c).After-side_taken _ (rw c.in-Second.is c.state-in_second.ensures.bytes) (rw c.in-Second.is c.state-in_second.ensures.place)

pub returns-in-Neither : goal.returns-in-Neither
returns-in-Neither c = part (goal.at.returns-in-Neither c).After-side_taken _ (rw c.in-Neither.is) (rw c.in-Neither.is)
