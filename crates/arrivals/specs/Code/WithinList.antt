-- What the code counts inside one list.
use Rattle.std.specs.Prelude.{ℕ, List, ltb}
use Rattle.search.specs.Find.{last}
use Rattle.arrivals.specs.Arrivals.{as_listed}

-- how many of the first j activations of a list lie within x, j up to its length: those up to the last that does, since no list falls
unfoldable pub within_list : List ℕ → ℕ → ℕ → ℕ
within_list ds x j = last (λ m. ltb (as_listed ds m) x) j
