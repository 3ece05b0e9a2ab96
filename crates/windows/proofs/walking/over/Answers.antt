-- `over` meets its contract: the definition, by the test.
use mathlib.Core.Path.{◌∙◌}
use Rattle.windows.proofs.Flags.{byte_when}
use Rattle.windows.proofs.walking.over.Goals as goal

pub returns : goal.returns
returns c = c.from.ensures ∙ byte_when _
