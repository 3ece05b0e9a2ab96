-- `least_called` meets its contract. The loop's invariant: the costs called bad by the activations looked at so far are those from `least`
-- on.
use Prim.Native.Nat.{◌≤◌}
use Rattle.windows.specs.Code.Load.{load_of}
use Rattle.windows.specs.Code.Called.{CalledFrom}
use Rattle.windows.proofs.sieving.least_called.Given as goal

abbrev pub invariant-loop-done : goal.invariant-loop-done
invariant-loop-done l = (l.done ≤ l.close) × CalledFrom (load_of l.s l.own l.held) l.done l.most l.least
