-- `walk` meets its contract. The loop's invariant is where the walk stands (`Walk`) and what is counted.
use Rattle.arrivals.specs.Arrivals.{δ}
use Rattle.windows.specs.Code.Load.{load_of, own_of, demand_in}
use Rattle.windows.specs.Code.Climb.{Counted}
use Rattle.windows.proofs.Walks.{Walk}
use Rattle.windows.proofs.walking.walk.Given as goal

abbrev pub invariant-loop-done : goal.invariant-loop-done
invariant-loop-done l = Walk (demand_in (load_of l.s l.own l.held)) (δ (own_of (load_of l.s l.own l.held))) l.deadline l.done l.start l.behind l.latency l.late
    × Counted (load_of l.s l.own l.held) l.start l.counts
