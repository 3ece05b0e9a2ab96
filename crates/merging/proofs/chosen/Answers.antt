-- A refused table hands back nothing.
use mathlib.Core.Path.{sym, ◌∙◌}
use Rattle.merging.specs.Merge.{versions, chosen_of, chosen_place}
use Rattle.merging.proofs.Judgements.{all-taken, says-accepted, asked, refused}
use Rattle.merging.proofs.Seeks.{first_record}
use Rattle.merging.specs.Versions.{Versions}
use Rattle.merging.proofs.chosen.Goals as goal
use Rattle.merging.proofs.chosen.Goals.{Start}

-- the three tables
abbrev of : (c : Start) → Versions
of c = versions c.args.ancestor c.args.first c.args.second

pub taken-requires : goal.taken-requires
taken-requires c = (
  all-taken (says-accepted (of (goal.at.taken-requires c).Start) (sym c.judge_all.ensures ∙ c.in-Ok.is)) (λ i. (c.type_inv.ancestor i).fits) (λ i. (c.type_inv.first i).fits) (λ i. (c.type_inv.second i).fits),
  first_record c.args.first.now,
  first_record c.args.second.now,
)

pub returns-in-Ok : goal.returns-in-Ok
unfolding chosen_of chosen_place
returns-in-Ok c = let v = of (goal.at.returns-in-Ok c).Start in
    let a = says-accepted v (sym c.judge_all.ensures ∙ c.in-Ok.is) in
    record { bytes = c.taken.ensures.bytes ∙ sym (asked v _ _ a); place = c.taken.ensures.place ∙ sym (asked v _ _ a) }

pub returns-in-Err : goal.returns-in-Err
unfolding chosen_of chosen_place
returns-in-Err c = let v = of (goal.at.returns-in-Err c).Start in
    let e = sym c.judge_all.ensures ∙ c.in-Err.is in
    record { bytes = sym (refused v e _ _); place = sym (refused v e _ _) }
