-- A refused table refuses. Of three accepted ones, the ids in order are the first of the array.
use mathlib.Core.Path.{refl, ap, sym, ◌∙◌}
use lib.Seq.{length-take-le}
use Rattle.std.specs.Prelude.{Ok, Err}
use Rattle.table.proofs.Firsts.{handed_on}
use Rattle.merging.specs.Rule.{conflict_above, least}
use Rattle.merging.specs.Merge.{versions, found_of}
use Rattle.merging.specs.Code.Parts.{AllTaken}
use Rattle.merging.specs.Code.Judged.{AllAccepted}
use Rattle.merging.proofs.Judgements.{all-taken, says-accepted, asked, refused}
use Rattle.merging.proofs.conflict.Goals as goal
use Rattle.merging.proofs.conflict.Goals.{In_ok-judge_all}

-- the three tables are accepted
accepted : (c : In_ok-judge_all) → AllAccepted (versions c.args.ancestor c.args.first c.args.second)
accepted c = says-accepted _ (sym c.judge_all.ensures ∙ c.in_ok-judge_all.was)

tables : (c : In_ok-judge_all) → AllTaken c.args.ancestor.now c.args.first.now c.args.second.now
tables c = all-taken (accepted c) (λ i. (c.type_inv.ancestor i).fits) (λ i. (c.type_inv.first i).fits) (λ i. (c.type_inv.second i).fits)

pub returns-in_err-judge_all : goal.returns-in_err-judge_all
unfolding found_of
returns-in_err-judge_all c = handed_on _ c.from_residual.ensures.1 ∙ sym (refused _ (sym c.judge_all.ensures ∙ c.in_err-judge_all.was) Err _)

pub ids_in_order-n-requires : goal.ids_in_order-n-requires
ids_in_order-n-requires c = (tables (goal.at.ids_in_order-n-requires c).In_ok-judge_all, refl)

pub slice_bounds-least_conflict-end : goal.slice_bounds-least_conflict-end
slice_bounds-least_conflict-end c = let w = c.ids_in_order-n in sym (length-take-le w.result w.new.ids w.ensures.few)

pub least_conflict-requires : goal.least_conflict-requires
least_conflict-requires c = tables (goal.at.least_conflict-requires c).In_ok-judge_all

pub returns : goal.returns
unfolding found_of conflict_above
returns c =
    ap Ok (c.least_conflict.ensures ∙ ap (least _) c.ids_in_order-n.ensures.numbers) ∙ sym (asked _ Err _ (accepted (goal.at.returns c).In_ok-judge_all))
