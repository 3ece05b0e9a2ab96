-- `bound` meets its contract: a load of the chain gives its figures.
use mathlib.Core.Path.{refl, ◌∙◌}
use Rattle.windows.proofs.Answers.{loads_bound}
use Rattle.windows.proofs.query.bound.Goals as goal

pub load-own-requires : goal.load-own-requires
load-own-requires c = let p = c.requires in (p.0, p.1, refl)

pub walk-requires : goal.walk-requires
walk-requires c = c.load-own.ensures.sound

pub returns : goal.returns
returns c = c.walk.ensures ∙ loads_bound c.load-own.ensures
