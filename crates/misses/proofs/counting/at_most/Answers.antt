-- What is left to be packed by the sieve, packed, and told as such.
use mathlib.Core.Path.{ap, sym, ◌∙◌}
use Rattle.std.specs.declared.result.Result.TheVariants.{Ok}
use Rattle.table.proofs.Firsts.{handed_on}
use Rattle.misses.specs.Code.Packings.{answer_by}
use Rattle.misses.specs.Sieve.{as_sieved, at_most_of}
use Rattle.misses.proofs.counting.at_most.Goals as goal

pub returns-in_err-left : goal.returns-in_err-left
unfolding at_most_of
returns-in_err-left c = handed_on _ c.from_residual.ensures.1 ∙ ap as_sieved (ap (answer_by c.args.k) (sym c.in_err-left.was) ∙ c.packings_of.ensures.is)

pub packed-most-requires : goal.packed-most-requires
packed-most-requires c = c.packings_of.ensures.within _ c.in_ok-left.was

pub returns : goal.returns
unfolding at_most_of
returns c = ap as_sieved (ap Ok c.packed-most.ensures ∙ ap (answer_by c.args.k) (sym c.in_ok-left.was) ∙ c.packings_of.ensures.is)
