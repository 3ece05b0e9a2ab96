-- The loop has stored the first i numbers, with 0 past them.
use mathlib.Core.Path.{◌≡◌}
use Rattle.table.specs.Bytes.{word}
use Rattle.table.proofs.Lists.{pad-none, pad-on}
use native.Mathlib.Omega.{arith}
use Rattle.table.proofs.decode.list_of.Goals as goal

pub loop-i-init : goal.loop-i-init
loop-i-init c = (omega arith, pad-none (word 4 c.args.s.now) 4 8 c.args.from)

pub loop-i-preserved : goal.loop-i-preserved
loop-i-preserved c = let a = c.args in
    (omega arith, cc (pad-on (word 4 a.s.now) 4 8 c.loop-i.i a.from (omega arith)))

pub returns : goal.returns
returns c = let e : c.loop-i.i ≡ c.args.n = omega arith in
    cc
