-- The first of the three that is a fault.
use mathlib.Core.Path.{◌≡◌, sym, ap₂, ◌∙◌}
use Rattle.std.specs.Result.{result_and}
use Rattle.table.specs.Bytes.{word}
use Rattle.table.specs.Record.{spaced}
use Rattle.table.specs.Fault.{◌then◌, fall_fault, last_fault, distances_fault}
use Rattle.table.proofs.Firsts.{handed_on, then_two}
use Rattle.table.proofs.fault.distances_fault.Goals as goal
use Rattle.table.proofs.fault.distances_fault.Goals.{After-and}

-- the first two, asked for together
both : (c : After-and) → let ds = spaced (word 4 c.args.s.now) 4 c.args.n c.args.at in result_and (fall_fault 0 ds c.args.at) (last_fault ds c.args.at) ≡ c.and.result
both c = sym (c.and.ensures ∙ ap₂ result_and c.fall_fault-falls.ensures c.last_fault-last.ensures)

pub returns-in_err-and : goal.returns-in_err-and
unfolding distances_fault ◌then◌
returns-in_err-and c = rw (handed_on _ c.from_residual.ensures.1, then_two, both (goal.at.returns-in_err-and c).After-and, c.in_err-and.was)

pub returns : goal.returns
unfolding distances_fault ◌then◌
returns c = rw (then_two, both (goal.at.returns c).After-and, c.in_ok-and.was, ← c.gap_fault.ensures)
