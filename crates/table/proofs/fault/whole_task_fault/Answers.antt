-- No byte is missing, so the mark decides, and then the values.
use Prim.Native.Nat.{◌+◌}
use native.Mathlib.Omega.{arith}
use mathlib.Core.Path.{◌≡◌}
use mathlib.Core.Bool.{false}
use lib.ListN.{length}
use lib.Dec.{ltb}
use borrow.Author.Tests.{le-ltb}
use Rattle.search.specs.Choice.{◌when◌else◌}
use Rattle.table.specs.Fault.{◌then◌, task_mark_fault, task_rest_fault, task_fault}
use Rattle.table.proofs.Marks.{no_task-other}
use Rattle.table.proofs.fault.whole_task_fault.Goals as goal
use Rattle.table.proofs.fault.whole_task_fault.Goals.{Start}

-- the mark is there, and the rest
marked : (c : Start) → ltb (length c.args.s.now) (c.args.at + 2) ≡ false
marked c = le-ltb (length c.args.s.now) (c.args.at + 2) (omega (arith, c.requires))

whole : (c : Start) → ltb (length c.args.s.now) (c.args.at + 8) ≡ false
whole c = le-ltb _ _ c.requires

pub returns-in-Task : goal.returns-in-Task
unfolding task_fault task_mark_fault task_rest_fault ◌then◌ ◌when◌else◌
returns-in-Task c = rw (marked (goal.at.returns-in-Task c).Start, ← c.u16_at.ensures, ← c.mark_of.ensures, c.in-Task.is, whole (goal.at.returns-in-Task c).Start, ← c.values_fault.ensures)

pub returns-in_default : goal.returns-in_default
unfolding task_fault task_mark_fault task_rest_fault ◌then◌ ◌when◌else◌
returns-in_default c = rw (marked (goal.at.returns-in_default c).Start, ← c.u16_at.ensures, ← c.mark_of.ensures, no_task-other _ c.args.at c.in_default.not-Task)
