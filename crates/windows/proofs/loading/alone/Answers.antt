-- `alone` meets its contract: nothing is held yet.
use mathlib.Core.Path.{refl}
use Rattle.windows.proofs.Joining.{alone_loads}
use Rattle.windows.proofs.loading.alone.Goals as goal

pub returns : goal.returns
returns c = (λ held e. rw (c.list_place.ensures, c.chain_cost.ensures, c.part.ensures) (alone_loads c.args.s.now c.args.at c.requires.0 held e), refl)
