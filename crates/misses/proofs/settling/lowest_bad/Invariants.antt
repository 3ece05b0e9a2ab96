-- The loop's invariant: which costs are settled (`Settles`), and an open one, 0 where none is. Each round leaves less room between.
use Prim.Native.Nat.{◌-◌}
use Rattle.windows.specs.Code.Load.{load_of}
use Rattle.misses.specs.Code.Settling.{over_with, Settles, Picks}
use Rattle.misses.proofs.settling.lowest_bad.Given as goal

abbrev pub invariant-loop-c : goal.invariant-loop-c
invariant-loop-c l = Settles (over_with (load_of l.s l.own l.held) l.close) l.ends × Picks l.ends l.costs l.c

abbrev pub decreases-loop-c : goal.decreases-loop-c
decreases-loop-c l = l.ends.bad - l.ends.good
