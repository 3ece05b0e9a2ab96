-- `latency` meets its contract: by the verdict; the bytes of an accepted table meet what the chains are read by.
use native.Mathlib.Omega.{arith}
use mathlib.Core.Path.{sym, ◌∙◌}
use Rattle.table.proofs.Accepted.{taken}
use Rattle.table.proofs.Firsts.{handed_on}
use Rattle.arrivals.specs.Arrivals.{δ}
use Rattle.windows.proofs.Answers.{latency-refused, latency-accepted}
use Rattle.windows.proofs.query.latency.Goals as goal

pub latency_in-requires : goal.latency_in-requires
latency_in-requires c = taken c.args.table.now (λ k. omega (arith, c.shared_slice_known-1.given k)) (sym c.judge.ensures ∙ c.in_ok-judge.was)

pub returns-in_err-judge : goal.returns-in_err-judge
returns-in_err-judge c = handed_on _ c.from_residual.ensures.1 ∙ sym (latency-refused δ c.args.table.now c.args.id (sym c.judge.ensures ∙ c.in_err-judge.was))

pub returns : goal.returns
returns c = c.latency_in.ensures ∙ sym (latency-accepted δ c.args.table.now c.args.id (sym c.judge.ensures ∙ c.in_ok-judge.was))
