-- So many packings went by, and what held still holds.
use native.Mathlib.Omega.{arith}
use Rattle.odometer.proofs.Ahead.{since_on, since_end}
use Rattle.odometer.proofs.Odometer.turn.Goals as goal

pub next-o-requires : goal.next-o-requires
next-o-requires c = let g = c.requires in (c.if-o.false, record { room = g.room; gone = c.loop.invariant.0 g.room g.gone })

pub loop-preserved : goal.loop-preserved
loop-preserved c = let l = c.loop in
    (λ room g. c.next-o.ensures.still room (l.invariant.0 room g), since_on l.invariant.1 c.if-o.false (c.next-o.ensures.later (omega arith)))

pub returns-after-loop : goal.returns-after-loop
returns-after-loop c = record { still = c.loop.invariant.0; later = λ z. since_end c.loop.invariant.1 (omega (arith, z, c.loop-test.false)) }
