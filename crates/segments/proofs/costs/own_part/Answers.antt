-- Where no task lies below the floor, the first at it is the first below the next level.
use Prim.Native.Nat.{◌-◌}
use native.Mathlib.Omega.{arith}
use Rattle.table.specs.Record.{row_at}
use Rattle.segments.proofs.Levels.{lowest_le, own_is}
use Rattle.segments.proofs.costs.own_part.Goals as goal

pub overflow_add-floor : goal.overflow_add-floor
overflow_add-floor c = let b = row_at c.args.s.now c.args.at in
    omega (arith, c.requires.1, lowest_le b.priority (b.tasks - 1) 0 (omega arith), c.requires.0.good.tasks.priorities_max 0)

pub returns : goal.returns
returns c = own_is (row_at c.args.s.now c.args.at) c.args.floor c.ahead.result c.requires.1 c.ahead.ensures
