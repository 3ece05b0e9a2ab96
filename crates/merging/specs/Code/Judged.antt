-- What the code finds of the three tables before it asks them anything.
use Rattle.std.specs.Prelude.{◌≡◌, ⊤}
use Rattle.table.specs.Read.{unless, read_table}
use Rattle.std.specs.declared.result.Result.{Result}
use Rattle.std.specs.declared.result.Result.TheVariants.{Ok}
use Rattle.merging.specs.Versions.{Versions}
use Rattle.merging.specs.Merge.{of_ancestor, of_first, of_second}
use Rattle.merging.specs.declared.Unmerged.{Unmerged}

-- the first of them that is refused, or that none is
unfoldable pub judged_of : Versions → Result ⊤ Unmerged
judged_of v =
    unless of_ancestor (read_table v.ancestor).verdict
    (unless of_first (read_table v.first).verdict
    (unless of_second (read_table v.second).verdict (Ok tt)))

-- none is
pub record AllAccepted (v : Versions) : Type 0 where
  pub ancestor : (read_table v.ancestor).verdict ≡ Ok tt
  pub first : (read_table v.first).verdict ≡ Ok tt
  pub second : (read_table v.second).verdict ≡ Ok tt
