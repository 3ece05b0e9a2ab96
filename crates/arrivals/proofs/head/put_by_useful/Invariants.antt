-- `put_by_useful` meets its contract. The loop's invariant: of the useful steps passed none comes to more than `best`.
use Rattle.table.specs.Code.Listed.{distances_from}
use Rattle.arrivals.proofs.Useful.{GreatestBy}
use Rattle.arrivals.proofs.head.put_by_useful.Given as goal

abbrev pub invariant-loop-step : goal.invariant-loop-step
invariant-loop-step l = GreatestBy (distances_from l.s l.list) l.steps l.m l.step-index l.best
