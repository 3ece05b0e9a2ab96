-- What is left of the tasks has the first fault of all, and starts within the bytes.
use Prim.Native.Nat.{◌≤◌, ◌+◌, ◌*◌, ◌-◌}
use mathlib.Core.Path.{◌≡◌}
use lib.ListN.{length}
use Rattle.table.specs.Fault.{tasks_fault}
use Rattle.table.proofs.fault.tasks_fault.Given as goal

abbrev pub invariant-loop-i : goal.invariant-loop-i
invariant-loop-i l = (l.i ≤ l.n) × (l.at + 8 * l.i ≤ length l.s) × (tasks_fault l.s (l.n - l.i) (l.at + 8 * l.i) ≡ tasks_fault l.s l.n l.at)
