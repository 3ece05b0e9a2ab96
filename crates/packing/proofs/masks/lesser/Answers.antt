-- By whether i is in m.
use Rattle.packing.proofs.Bits.{bit_le}
use Rattle.packing.specs.Packing.{bit}
use mathlib.Core.Path.{◌≡◌}
use native.Mathlib.Omega.{arith}
use Rattle.packing.proofs.Tries.{fitting_on}
use Rattle.packing.proofs.masks.lesser.Goals as goal

pub returns-then-has-eq0 : goal.returns-then-has-eq0
returns-then-has-eq0 c = let none : bit c.args.i c.args.m ≡ 0 = omega (arith, c.has.ensures) in
    λ need f. fitting_on f (omega arith) (rw none (omega arith)) (λ y l h. l)

-- i is in m
pub returns : goal.returns
returns c = let one : bit c.args.i c.args.m ≡ 1 = omega (arith, c.has.ensures, c.if-has-eq0.false, bit_le c.args.i c.args.m) in
    λ need f. fitting_on f (omega arith) (rw one (omega arith)) (λ y l h. let q = rw one at h in omega (arith, q))
