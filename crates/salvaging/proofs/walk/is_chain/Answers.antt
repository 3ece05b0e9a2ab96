-- The mark is one of the two forms, or it is not.
use Prim.Native.Nat.{ℕ}
use mathlib.Core.Path.{◌≡◌, refl}
use mathlib.Core.Bool.{Bool, true, false, ◌||◌}
use lib.Dec.{eqb}
use Rattle.search.specs.Choice.{◌when◌else◌}
use Rattle.table.specs.Record.{gap_form, largest_form, task_mark, end_mark}
use Rattle.table.specs.Fault.{mark_of, is_chain}
use Rattle.table.specs.declared.Mark.TheVariants.{Chain, Task, End, Unknown}
use Rattle.salvaging.proofs.walk.is_chain.Goals as goal

either : (m : ℕ) → (eqb m gap_form || eqb m largest_form) ≡ is_chain (mark_of m)
unfolding mark_of ◌when◌else◌
either m = by (eqb m gap_form || eqb m largest_form) (eqb m task_mark) (eqb m end_mark)
  where
    by : (a b c : Bool) → a ≡ is_chain (Chain when a else Task when b else End when c else Unknown)
    by true b c = refl
    by false true c = refl
    by false false true = refl
    by false false false = refl

pub returns : goal.returns
returns c = either c.args.mark
