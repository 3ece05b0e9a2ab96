-- Mark by mark.
use mathlib.Core.Path.{ap, sym, ◌∙◌}
use Rattle.salvaging.specs.Code.Walk.{is_task}
use Rattle.salvaging.proofs.walk.is_task.Goals as goal

pub returns-in-Task : goal.returns-in-Task
returns-in-Task c = ap is_task (sym (sym c.mark_of.ensures ∙ c.in-Task.is))
