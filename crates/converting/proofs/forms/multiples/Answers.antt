-- The loop has stored the first i multiples, with 0 past them; `distance` is the next.
use Prim.Native.Nat.{◌≤◌}
use mathlib.Core.Path.{◌≡◌, ap, ◌∙◌}
use native.Mathlib.Omega.{arith}
use native.Mathlib.Nat.{mul-le-mul}
use Rattle.table.specs.Limits.{max_distances}
use Rattle.table.specs.Record.{pad}
use Rattle.table.proofs.Lists.{pad-none, pad-on}
use Rattle.converting.specs.Forms.{multiples}
use Rattle.converting.proofs.forms.multiples.Goals as goal

pub loop-i-init : goal.loop-i-init
loop-i-init c = (omega arith, omega arith, pad-none (λ m. m) c.args.gap max_distances c.args.gap)

pub overflow_add-distance : goal.overflow_add-distance
overflow_add-distance c = let l : c.loop-i.i ≤ max_distances = omega arith in
    omega (arith, mul-le-mul c.requires.0 l)

pub loop-i-preserved : goal.loop-i-preserved
loop-i-preserved c = let g = c.args.gap in
    let l = c.loop-i in
    (omega arith, omega arith, rw (l.invariant.1, l.invariant.2) (pad-on (λ m. m) g max_distances l.i g (omega arith)))

pub returns : goal.returns
returns c = let a = c.args in
    let e : c.loop-i.i ≡ a.n = omega arith in
    c.loop-i.invariant.2 ∙ ap (λ i. pad max_distances (multiples a.gap i)) e
