-- Refused, known, or late times the most uses, up to k.
use mathlib.Core.Path.{ap, sym, ◌∙◌}
use borrow.Author.Tests.{not-false}
use Rattle.std.proofs.Common.{◌*◌, min}
use Rattle.std.specs.declared.result.Result.TheVariants.{Ok}
use Rattle.table.proofs.Firsts.{handed_on}
use Rattle.odometer.proofs.Turns.{gone-most}
use Rattle.misses.specs.Code.Packings.{answer_by}
use Rattle.table_misses.specs.Code.Counting.{as_counted}
use Rattle.table_misses.proofs.Known.{counts-is, counts-left}
use Rattle.table_misses.proofs.counting.counted.Goals as goal

pub returns-in_err-left : goal.returns-in_err-left
returns-in_err-left g c = counts-is (handed_on _ c.from_residual.ensures.1 ∙ ap (λ r. as_counted (answer_by c.args.k r)) (sym c.in_err-left.was) ∙ ap as_counted c.packings_for.ensures.is)

pub returns-in-Known : goal.returns-in-Known
returns-in-Known g c = let k = c.args.k in
    counts-left k c.in-Known.n c.in_ok-left.left (sym (ap (λ l. answer_by k (Ok l)) c.in-Known.is)) c.in_ok-left.was c.packings_for.ensures.is

pub returns-else-not-o : goal.returns-else-not-o
returns-else-not-o g c = let k = c.args.k in
    let most = gone-most c.gone_through-o.ensures.0 (not-false _ c.if-not-o.false) in
    counts-left k c.figure.result c.in_ok-left.left
    (ap Ok (c.figure.ensures ∙ ap (λ n. min k (c.in-Packed.p.late * n)) most) ∙ sym (ap (λ l. answer_by k (Ok l)) c.in-Packed.is))
    c.in_ok-left.was c.packings_for.ensures.is
