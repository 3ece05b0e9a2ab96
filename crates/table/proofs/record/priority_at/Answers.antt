-- The priority listed there.
use Prim.Native.Nat.{◌+◌, ◌*◌}
use native.Mathlib.Omega.{arith}
use mathlib.Core.Path.{ap, sym, ◌∙◌}
use Rattle.table.specs.Record.{priority_at}
use Rattle.table.proofs.Stands.{priority-at}
use Rattle.table.proofs.record.priority_at.Goals as goal

pub returns : goal.returns
returns c = let e = ap (λ n. priority_at c.args.s.now (n + 8 * c.args.i)) c.first_task.ensures in (
  c.from.ensures ∙ c.u16_at.ensures ∙ e ∙ sym (priority-at c.args.s.now c.args.at c.args.i c.requires.1),
  omega (arith, c.from.ensures, c.u16_at.ensures),
)
