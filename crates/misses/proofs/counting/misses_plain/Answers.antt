-- Known, or late times the most uses, up to k.
use Prim.Native.Nat.{◌*◌, min}
use mathlib.Core.Path.{◌≡◌, ap, sym, ◌∙◌}
use Rattle.std.specs.declared.result.Result.TheVariants.{Ok}
use Rattle.table.proofs.Firsts.{handed_on}
use Rattle.misses.specs.Misses.{Answer, misses_of}
use Rattle.misses.specs.Code.Packings.{missed_by, answer_by}
use Rattle.misses.proofs.counting.misses_plain.Goals as goal
use Rattle.misses.proofs.counting.misses_plain.Goals.{In_ok-left}

-- what is left leads to the answer
leads : (c : In_ok-left) → ◌≡◌ {A = Answer} (Ok (missed_by c.args.k c.in_ok-left.left)) (misses_of c.args.table.now c.args.id c.args.k)
leads c = ap (answer_by c.args.k) (sym c.in_ok-left.was) ∙ c.packings_for.ensures.is

pub returns-in_err-left : goal.returns-in_err-left
returns-in_err-left c = handed_on _ c.from_residual.ensures.1 ∙ ap (answer_by c.args.k) (sym c.in_err-left.was) ∙ c.packings_for.ensures.is

pub returns-in-Known : goal.returns-in-Known
returns-in-Known c = ap (λ l. answer_by c.args.k (Ok l)) (sym c.in-Known.is) ∙ leads (goal.at.returns-in-Known c).In_ok-left

pub returns-in-Packed : goal.returns-in-Packed
returns-in-Packed c = let k = c.args.k in
    ap Ok (c.figure.ensures ∙ ap (λ n. min k (c.in-Packed.p.late * n)) c.most_uses.ensures)
    ∙ ap (λ l. answer_by k (Ok l)) (sym c.in-Packed.is) ∙ leads (goal.at.returns-in-Packed c).In_ok-left
