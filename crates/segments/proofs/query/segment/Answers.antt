-- An accepted table is taken; a refused one refuses the query.
use native.Mathlib.Omega.{arith}
use mathlib.Core.Path.{sym, ◌∙◌}
use Rattle.table.proofs.Accepted.{taken}
use Rattle.table.proofs.Firsts.{handed_on}
use Rattle.segments.specs.Query.{segment_of}
use Rattle.segments.proofs.query.segment.Goals as goal

pub ask-requires : goal.ask-requires
ask-requires c = taken c.args.table.now (λ i. omega (arith, c.type_inv.table i)) (sym c.judge.ensures ∙ c.in_ok-judge.was)

pub returns-in_err-judge : goal.returns-in_err-judge
unfolding segment_of
returns-in_err-judge c = rw (handed_on _ c.from_residual.ensures.1, ← c.judge.ensures, c.in_err-judge.was)

pub returns : goal.returns
unfolding segment_of
returns c = rw (← c.judge.ensures, c.in_ok-judge.was, c.ask.ensures)
