-- `any_over` meets its contract. The loop's invariant (`Swept`): the windows taken so far are not over the deadline, and the next is
-- not under its start.
use Prim.Native.Nat.{◌≤◌}
use Rattle.arrivals.specs.Arrivals.{δ}
use Rattle.windows.specs.Code.Load.{load_of, own_of, demand_in}
use Rattle.windows.specs.Code.Climb.{Counted}
use Rattle.windows.proofs.Sweeps.{Swept}
use Rattle.windows.proofs.sweeping.any_over.Given as goal

abbrev pub invariant-loop-done : goal.invariant-loop-done
invariant-loop-done l = (l.done ≤ l.close) × Swept (demand_in (load_of l.s l.own l.held)) (δ (own_of (load_of l.s l.own l.held))) l.deadline l.done l.start × Counted (load_of l.s l.own l.held) l.start l.counts
