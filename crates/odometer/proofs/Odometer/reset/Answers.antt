-- The digit m is 0, and the room has its uses back.
use mathlib.Core.Path.{refl}
use native.Mathlib.Omega.{arith}
use lib.Seq.{get_or-set_same, get_or-set_other}
use Rattle.odometer.proofs.Fit.{places}
use Rattle.odometer.proofs.Odometer.reset.Goals as goal

pub returns : goal.returns
returns c = let o = c.args.self in
    let m = c.args.m in (
      record {
        here = get_or-set_same o.uses m _ 0 (omega (arith, c.requires.there, places o _ c.well_formed.0));
        others = λ x l d. get_or-set_other o.uses m x _ 0 d;
        left = λ i l. omega (arith, c.give_back-o.ensures i l);
        total = omega (arith, c.requires.counted, c.from.ensures);
        over = refl;
      },
      refl,
    )
