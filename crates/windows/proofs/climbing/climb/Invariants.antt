-- `climb` meets its contract. The loop's invariant: t is under every s in which its demand fits, and no more arrivals are counted than
-- there are in t. The measure is what is left up to the horizon.
use Prim.Native.Nat.{◌-◌, ◌+◌}
use Rattle.table.specs.Limits.{horizon}
use Rattle.windows.specs.Code.Climb.{Under, Counted}
use Rattle.windows.specs.Code.Load.{load_of, demand_in}
use Rattle.windows.proofs.climbing.climb.Given as goal

abbrev pub invariant-loop-t : goal.invariant-loop-t
invariant-loop-t l = Under (demand_in (load_of l.s l.own l.held) l.q) l.t × Counted (load_of l.s l.own l.held) l.t l.counts

abbrev pub decreases-loop-t : goal.decreases-loop-t
decreases-loop-t l = horizon + 1 - l.t
