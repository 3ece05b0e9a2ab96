-- No kept combination before j is a part of m.
use Rattle.packing.specs.Code.Engine.{kept_inside}
use Rattle.packing.proofs.Loops.{Passed}
use Rattle.packing.proofs.masks.kept_part.Given as goal

abbrev pub invariant-loop-j : goal.invariant-loop-j
invariant-loop-j l = Passed (kept_inside l.kept l.m) 0 l.count l.j
