-- A refused table refuses. Of three accepted ones, the ids in order are the first of the array.
use mathlib.Core.Path.{refl, ap, sym, ◌∙◌}
use mathlib.Core.List.{List}
use Prim.Native.Nat.{ℕ}
use lib.ListN.{length}
use lib.Seq.{length-take-le}
use native.Mathlib.Omega.{arith}
use Rattle.std.specs.Prelude.{Err}
use Rattle.search.specs.Choice.{by_number}
use Rattle.table.proofs.Firsts.{handed_on}
use Rattle.merging.specs.Versions.{Versions}
use Rattle.merging.specs.Rule.{order, conflict_above}
use Rattle.merging.specs.Merge.{Answer, versions, fitted, buffer_after}
use Rattle.merging.specs.declared.Unmerged.TheVariants.{Conflict}
use Rattle.merging.specs.Code.Parts.{AllTaken}
use Rattle.merging.specs.Code.Judged.{AllAccepted}
use Rattle.merging.specs.Code.Size.{states_of, least_of, result_from}
use Rattle.merging.proofs.Judgements.{all-taken, says-accepted, merge-refused, merge-asked}
use Rattle.merging.proofs.Results.{result-from}
use Rattle.merging.proofs.merge.Goals as goal
use Rattle.merging.proofs.merge.Goals.{Start, In_ok-judge_all}

-- the three tables, which are accepted
abbrev of : (c : Start) → Versions
of c = versions c.args.ancestor c.args.first c.args.second

accepted : (c : In_ok-judge_all) → AllAccepted (versions c.args.ancestor c.args.first c.args.second)
accepted c = says-accepted _ (sym c.judge_all.ensures ∙ c.in_ok-judge_all.was)

tables : (c : In_ok-judge_all) → AllTaken c.args.ancestor.now c.args.first.now c.args.second.now
tables c = all-taken (accepted c) (λ i. (c.type_inv.ancestor i).fits) (λ i. (c.type_inv.first i).fits) (λ i. (c.type_inv.second i).fits)

pub returns-in_err-judge_all : goal.returns-in_err-judge_all
returns-in_err-judge_all c = rw (handed_on _ c.from_residual.ensures.1) (merge-refused _ (sym c.judge_all.ensures ∙ c.in_err-judge_all.was) c.args.out.now)

pub ids_in_order-n-requires : goal.ids_in_order-n-requires
ids_in_order-n-requires c = (tables (goal.at.ids_in_order-n-requires c).In_ok-judge_all, refl)

pub slice_bounds-fit-end : goal.slice_bounds-fit-end
slice_bounds-fit-end c = let w = c.ids_in_order-n in sym (length-take-le w.result w.new.ids w.ensures.few)

pub fit-requires : goal.fit-requires
fit-requires c = let w = c.ids_in_order-n in (tables (goal.at.fit-requires c).In_ok-judge_all, omega (arith, length-take-le w.result w.new.ids w.ensures.few, w.ensures.few))

pub returns : goal.returns
unfolding conflict_above
returns c = let v = of (goal.at.returns c).Start in
    let w = c.ids_in_order-n in
    let f = c.fit in
    let out = c.args.out.now in
    let is = ap (λ (ids : List ℕ). result_from (states_of v ids)) w.ensures.numbers ∙ result-from v in
    let answer : ℕ → List ℕ → Answer = λ id r. by_number (λ id. Err (Conflict id)) id (fitted (length out) r) in
    record {
      answers = f.ensures.answers ∙ ap (λ (ids : List ℕ). answer (least_of v ids) (result_from (states_of v ids))) w.ensures.numbers
          ∙ ap (answer (least_of v (order v))) (result-from v) ∙ sym (merge-asked v (length out) (accepted (goal.at.returns c).In_ok-judge_all));
      leaves = f.ensures.leaves ∙ ap (λ (r : List ℕ). buffer_after f.result r out) is;
    }
