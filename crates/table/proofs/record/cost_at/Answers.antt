-- The cost listed there.
use Prim.Native.Nat.{◌+◌, ◌*◌}
use mathlib.Core.Path.{ap, sym, ◌∙◌}
use Rattle.table.specs.Record.{cost_at}
use Rattle.table.proofs.Stands.{cost-at}
use Rattle.table.proofs.record.cost_at.Goals as goal

pub returns : goal.returns
returns c = c.u32_at.ensures ∙ ap (λ n. cost_at c.args.s.now (n + 8 * c.args.i)) c.first_task.ensures ∙ sym (cost-at c.args.s.now c.args.at c.args.i c.requires.1)
