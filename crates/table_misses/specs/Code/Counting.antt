-- What the plain engine's count says.
use Rattle.std.specs.Prelude.{◌≡◌}
use Rattle.std.specs.declared.result.Result.{Result}
use Rattle.std.specs.declared.result.Result.TheVariants.{Ok, Err}
use Rattle.table.specs.declared.refusal.Refusal.{Refusal}
use Rattle.misses.specs.Misses.{Answer}
use Rattle.table_misses.specs.declared.counting.Count.{Count}
use Rattle.table_misses.specs.declared.counting.Count.TheVariants.{Known, GivenUp}
use Rattle.table_misses.specs.declared.counting.Extent.{Extent}
use Rattle.table_misses.specs.declared.counting.Extent.TheVariants.{Every}

-- the answer of the miss query, as a count that was not given up
abbrev pub as_counted : Answer → Result Count Refusal
as_counted (Ok n) = Ok (Known n)
as_counted (Err n) = Err n

-- where it was not given up it is that; and it is not where every packing was to be gone through
pub record Counts (answer : Answer) (extent : Extent) (r : Result Count Refusal) : Type 0 where
  pub right : (r ≡ Ok GivenUp → ⊥) → r ≡ as_counted answer
  pub known : extent ≡ Every → r ≡ as_counted answer
