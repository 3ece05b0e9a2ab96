-- What was found, or one of the places left, is the id.
use mathlib.Core.Path.{◌≡◌}
use mathlib.Core.Bool.{◌||◌}
use lib.ListN.{drop}
use Rattle.writing.specs.Code.Tally.{bears}
use Rattle.writing.proofs.judged.bears.Given as goal

abbrev pub invariant-loop-i : goal.invariant-loop-i
invariant-loop-i l = (l.found || bears (drop l.i l.ids) l.id) ≡ bears l.ids l.id
