-- The distance listed there.
use mathlib.Core.Path.{sym, ◌∙◌}
use Rattle.table.specs.Bytes.{word}
use Rattle.table.specs.Code.Listed.{listed_from}
use Rattle.table.proofs.Lists.{spaced-at}
use Rattle.table.proofs.record.distance_from.Goals as goal

pub returns : goal.returns
returns c = let s = c.args.s.now in
    c.u32_at.ensures ∙ sym (spaced-at (word 4 s) 4 (listed_from s c.args.list) c.args.j c.args.list c.requires.1)
