-- A power of two within 64, so nothing is lost by the shift.
use Prim.Native.Nat.{◌*◌, ◌^◌, ◌≤◌, ◌<◌}
use native.Mathlib.Omega.{arith}
use native.Mathlib.Nat.{mod-eq_of_lt}
use lib.Pow.{pow_mono}
use Rattle.table.specs.Limits.{max_overloads}
use Rattle.misses.proofs.pricing.sets_of.Goals as goal

pub returns : goal.returns
returns c = let p : 2 ^ c.args.n ≤ 2 ^ max_overloads = pow_mono c.requires in
    let l : 1 * 2 ^ c.args.n < 18446744073709551616 = omega arith in
    let e = mod-eq_of_lt l in
    (omega (arith, e), omega (arith, e))
