-- None of the kept combinations before j weighs less than d.
use mathlib.Core.Path.{◌≡◌}
use native.Mathlib.Omega.{arith}
use Rattle.packing.proofs.Cut.{floor_start, floor_on}
use borrow.Author.Rules.{rules}
use Rattle.packing.proofs.weights.floor.Goals as goal

pub loop-j-init : goal.loop-j-init
loop-j-init c = (search rules, floor_start _ _)

pub loop-j-preserved : goal.loop-j-preserved
loop-j-preserved c = let i = c.loop-j.invariant in
    (omega (arith, c.lower-d.ensures.0, i.0), floor_on i.1 c.lower-d.ensures.0 c.lower-d.ensures.1)

pub returns : goal.returns
returns c = let i = c.loop-j.invariant in
    let e : c.loop-j.j ≡ c.args.n = omega arith in
    (rw e at i.1, i.0)
