-- An accepted table is taken; a refused one refuses the query.
use mathlib.Core.Path.{sym, ◌∙◌}
use Rattle.table.proofs.Accepted.{taken}
use Rattle.table.proofs.Firsts.{handed_on}
use Rattle.slices.specs.Locate.{located_of}
use Rattle.slices.proofs.record.Goals as goal

pub record_in-requires : goal.record_in-requires
record_in-requires c = taken c.args.s.now (λ i. (c.type_inv.s i).fits) (sym c.judge.ensures ∙ c.in_ok-judge.was)

pub returns-in_err-judge : goal.returns-in_err-judge
unfolding located_of
returns-in_err-judge c = rw (handed_on _ c.from_residual.ensures.1, ← c.judge.ensures, c.in_err-judge.was)

pub returns : goal.returns
unfolding located_of
returns c = rw (c.record_in.ensures, ← c.judge.ensures, c.in_ok-judge.was)
