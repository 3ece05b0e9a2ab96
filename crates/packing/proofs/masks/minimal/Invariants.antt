-- The combinations below m are gone through.
use Rattle.packing.specs.Code.Engine.{Kept}
use Rattle.packing.proofs.masks.minimal.Given as goal

abbrev pub invariant-loop-m : goal.invariant-loop-m
invariant-loop-m l = Kept l.bad l.kept l.count l.m
