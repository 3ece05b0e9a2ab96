-- What is left to be packed for a miss query, as the code holds it.
use Rattle.std.specs.Prelude.{ℕ, ◌*◌, ◌<◌, ◌≤◌, min, ◌≡◌, List, ⊤}
use Rattle.table.specs.Limits.{max_run, max_activations}
use Rattle.table.specs.Find.{row_of}
use Rattle.table.specs.Read.{table_of}
use Rattle.table.specs.Code.Taken.{Taken}
use Rattle.windows.specs.declared.Windows.{Windows}
use Rattle.packing.specs.Most.{most_uses, flagged, capacity}
use Rattle.std.specs.declared.result.Result.{Result}
use Rattle.std.specs.declared.result.Result.TheVariants.{Ok, Err}
use Rattle.table.specs.declared.refusal.Refusal.{Refusal}
use Rattle.misses.specs.Bad.{Test, by_windows}
use Rattle.misses.specs.Misses.{Answer}
use Rattle.misses.specs.Sieve.{by_sieve}
use Rattle.misses.specs.Code.Held.{Asked, Admitted}
use Rattle.misses.specs.declared.Pieces.{Pieces}
use Rattle.misses.specs.declared.How.{How}
use Rattle.misses.specs.declared.How.TheVariants.{Lowest, Each, Sieve}
use Rattle.misses.specs.declared.Left.{Left}
use Rattle.misses.specs.declared.Left.TheVariants.{Known, Packed}

-- the test of costs: by windows, whether the lowest bad cost is looked for or each set is tested, or by the sieve
abbrev pub test_of : How → Test
test_of Lowest = by_windows
test_of Each = by_windows
test_of Sieve = by_sieve

-- what is known of a query of a table that nothing refuses: the chain is there, and so are the windows and active segments that it goes by
pub record Ready (s : List ℕ) (chain k : ℕ) (w : Windows) (p : Pieces) : Type 0 where
  pub taken : Taken s
  pub there : chain < (table_of s).count
  pub asked : Asked (row_of (table_of s) chain) k w
  pub admitted : Admitted (table_of s) chain k w p

-- the run and the late activations are within their limits
pub record Sized (k late : ℕ) : Type 0 where
  pub low : 1 ≤ k
  pub high : k ≤ max_run
  pub some : 1 ≤ late
  pub few : late ≤ max_activations

-- how many are missed: so many as are known, or the smaller of k and late times the most uses any packing has
abbrev pub missed_by : ℕ → Left → ℕ
missed_by k (Known n) = n
missed_by k (Packed p) = min k (p.late * most_uses (flagged p.bad) (capacity p.capacity))

-- where something is to be packed, run and late activations are within their limits
abbrev pub Within : ℕ → Left → Type 0
Within k (Known n) = ⊤
Within k (Packed p) = Sized k p.late

-- what is left leads to so many misses
pub record Leaves (k n : ℕ) (l : Left) : Type 0 where
  pub is : missed_by k l ≡ n
  pub within : Within k l

-- and, where the query may be refused, to the answer
abbrev pub answer_by : ℕ → Result Left Refusal → Answer
answer_by k (Ok l) = Ok (missed_by k l)
answer_by k (Err n) = Err n

pub record LeadsTo (k : ℕ) (answer : Answer) (r : Result Left Refusal) : Type 0 where
  pub is : answer_by k r ≡ answer
  pub within : (l : Left) → r ≡ Ok l → Within k l
