-- What is left to be packed, packed.
use mathlib.Core.Path.{ap, sym, ◌∙◌}
use Rattle.std.specs.declared.result.Result.TheVariants.{Ok}
use Rattle.table.proofs.Firsts.{handed_on}
use Rattle.misses.specs.Code.Packings.{answer_by}
use Rattle.misses.proofs.counting.misses_with.Goals as goal

pub returns-in_err-left : goal.returns-in_err-left
returns-in_err-left c = handed_on _ c.from_residual.ensures.1 ∙ ap (answer_by c.args.k) (sym c.in_err-left.was) ∙ c.packings_with.ensures.is

pub packed-requires : goal.packed-requires
packed-requires c = c.packings_with.ensures.within _ c.in_ok-left.was

pub returns : goal.returns
returns c = ap Ok c.packed.ensures ∙ ap (answer_by c.args.k) (sym c.in_ok-left.was) ∙ c.packings_with.ensures.is
