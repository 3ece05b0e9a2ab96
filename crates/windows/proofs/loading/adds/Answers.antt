-- `adds` meets its contract: the definition, by which others add.
use mathlib.Core.Path.{ap, sym}
use Rattle.windows.specs.Code.Load.{adds_to}
use Rattle.windows.proofs.loading.adds.Goals as goal

pub returns-in-Typical : goal.returns-in-Typical
returns-in-Typical c = ap (λ o. adds_to o c.args.overload) (sym c.in-Typical.is)
