-- The kept combinations have as many uses as the bad ones, and there are never more than all the room there is.
use Prim.Native.Nat.{ℕ, min}
use mathlib.Core.Path.{◌≡◌}
use native.Mathlib.Omega.{arith}
use Rattle.packing.specs.Most.{most_uses, flagged, capacity}
use Rattle.packing.specs.Code.Engine.{MostUpTo}
use Rattle.packing.proofs.Tries.{ceiling-start}
use Rattle.packing.proofs.Kept.{kept-up-to}
use Rattle.packing.proofs.Most.{most-room}
use Rattle.packing.proofs.uses_up_to.Goals as goal
use Rattle.packing.proofs.uses_up_to.Goals.{After-min-limit}

-- the most of these are the most of all, up to `enough`
counted : (c : After-min-limit) → {r : ℕ} → MostUpTo c.minimal-count.new.kept c.minimal-count.result (capacity c.args.room.now) c.min-limit.result r
    → r ≡ min c.args.enough (most_uses (flagged c.args.bad.now) (capacity c.args.room.now))
counted c m = omega (arith, kept-up-to c.minimal-count.ensures m, c.min-limit.ensures, c.total.ensures.0, most-room (flagged c.args.bad.now) (capacity c.args.room.now))

pub returns-then-first_try-limit : goal.returns-then-first_try-limit
returns-then-first_try-limit c = counted (goal.at.returns-then-first_try-limit c).After-min-limit record { ceiling = ceiling-start; fits = rw c.if-first_try-limit.true at c.first_try.ensures }

pub returns : goal.returns
returns c = counted (goal.at.returns c).After-min-limit c.fullest.ensures
