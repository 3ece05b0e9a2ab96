-- Nothing comes before the packing that uses nothing.
use mathlib.Core.Path.{refl}
use lib.ListN.{get_or-replicate}
use Rattle.odometer.proofs.Fit.{bytes}
use Rattle.odometer.proofs.Turns.{gone-start}
use Rattle.odometer.proofs.Odometer.start.Goals as goal

pub returns : goal.returns
returns c bad = gone-start bad _ (bytes c.args.room c.well_formed.0.0 c.well_formed.0.1.1) (λ m l. get_or-replicate 64 m 0 0 l) refl refl refl
