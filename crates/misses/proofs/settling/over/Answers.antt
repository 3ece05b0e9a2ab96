-- The load with the cost more has room for it, and its windows are the set's.
use mathlib.Core.Path.{◌∙◌}
use native.Mathlib.Omega.{arith}
use Rattle.windows.specs.Code.Load.{Load, load_of}
use Rattle.windows.proofs.Joining.{dearer-sound}
use Rattle.misses.proofs.Worsening.{dearer-over}
use Rattle.misses.proofs.settling.over.Goals as goal
use Rattle.misses.proofs.settling.over.Goals.{Start}

abbrev load : (c : Start) → Load
load c = load_of c.args.s.now c.args.own c.args.held.now

pub overflow_add-dearer : goal.overflow_add-dearer
overflow_add-dearer c = omega (arith, c.requires.0.room, c.requires.1)

pub any_over-requires : goal.any_over-requires
any_over-requires c = (dearer-sound (load (goal.at.any_over-requires c).Start) c.args.cost c.requires.0.sound (omega (arith, c.requires.0.room, c.requires.1)), c.requires.0.few)

pub returns : goal.returns
returns c = c.any_over.ensures ∙ dearer-over (load (goal.at.returns c).Start) c.args.close c.args.cost
