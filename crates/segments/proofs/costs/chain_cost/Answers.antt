-- No task lies below the level 0, so all come before the first that does.
use Rattle.table.specs.Record.{row_at}
use Rattle.segments.proofs.Levels.{whole_is}
use Rattle.segments.proofs.costs.chain_cost.Goals as goal

pub returns : goal.returns
returns c = whole_is (row_at c.args.s.now c.args.at) c.ahead.result c.ahead.ensures
