-- The loop has stored what the first i tasks hold, with 0 past them.
use mathlib.Core.Path.{◌≡◌}
use Rattle.table.specs.Record.{priority_at, cost_at}
use Rattle.table.proofs.Lists.{pad-none, pad-on}
use native.Mathlib.Omega.{arith}
use Rattle.table.proofs.decode.tasks_of.Goals as goal

pub loop-i-init : goal.loop-i-init
loop-i-init c = let a = c.args in
    (omega arith, pad-none (priority_at a.s.now) 8 16 a.from, pad-none (cost_at a.s.now) 8 16 a.from)

pub loop-i-preserved : goal.loop-i-preserved
loop-i-preserved c = let a = c.args in
    let i = c.loop-i.i in (
      omega arith,
      cc (pad-on (priority_at a.s.now) 8 16 i a.from (omega arith)),
      cc (pad-on (cost_at a.s.now) 8 16 i a.from (omega arith)),
    )

pub returns : goal.returns
returns c = let e : c.loop-i.i ≡ c.args.n = omega arith in
    (cc, cc)
