-- What comes of a count. Assumes nothing.
use Prim.Native.Nat.{ℕ}
use mathlib.Core.Path.{◌≡◌, ap, sym, ◌∙◌}
use Rattle.std.specs.declared.result.Result.{Result}
use Rattle.std.specs.declared.result.Result.TheVariants.{Ok}
use Rattle.table.specs.declared.refusal.Refusal.{Refusal}
use Rattle.misses.specs.Misses.{Answer}
use Rattle.misses.specs.Code.Packings.{answer_by}
use Rattle.misses.specs.declared.Left.{Left}
use Rattle.table_misses.specs.declared.counting.Count.{Count}
use Rattle.table_misses.specs.declared.counting.Count.TheVariants.{Known}
use Rattle.table_misses.specs.declared.counting.Extent.{Extent}
use Rattle.table_misses.specs.Code.Counting.{as_counted, Counts}

-- the answer was found
pub counts-is : {answer : Answer} {extent : Extent} {r : Result Count Refusal} → r ≡ as_counted answer → Counts answer extent r
counts-is e = record { right = λ g. e; known = λ g. e }

-- by what is left
pub counts-left : (k n : ℕ) (l : Left) {answer : Answer} {extent : Extent} {r : Result Left Refusal} → ◌≡◌ {A = Answer} (Ok n) (answer_by k (Ok l)) → r ≡ Ok l → answer_by k r ≡ answer
    → Counts answer extent (Ok (Known n))
counts-left k n l e f g = counts-is (ap as_counted (e ∙ ap (answer_by k) (sym f) ∙ g))
