-- The shares before i, each times its amount, are added up.
use Prim.Native.Nat.{◌+◌, ◌*◌}
use lib.ListN.{get_or}
use Rattle.packing.specs.Code.Engine.{max_byte}
use Rattle.packing.proofs.Loops.{Added}
use Rattle.packing.proofs.weights.weigh.Given as goal

abbrev pub invariant-loop-i : goal.invariant-loop-i
invariant-loop-i l = Added (λ k. get_or l.shares (l.v * 6 + k) 0 * get_or l.amount k 0) (max_byte * max_byte) 6 l.i l.sum
