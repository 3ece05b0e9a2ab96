-- The loop's invariant: the sets below m have their prices.
use mathlib.Core.Path.{◌≡◌}
use Rattle.misses.specs.Code.Held.{pieces_at, price_of}
use Rattle.misses.proofs.Fills.{Filled}
use Rattle.misses.proofs.pricing.prices.Given as goal

abbrev pub invariant-loop-m : goal.invariant-loop-m
invariant-loop-m l = Filled (λ k x. x ≡ price_of (pieces_at l.chain l.segment l.cost l.n 0) k) 64 l.out l.m
