-- What the code keeps of the ids: the first numbers of an array.
use Rattle.std.specs.Prelude.{ℕ, ◌+◌, ◌*◌, ◌≤◌, ◌≡◌, List, [], ◌∷◌, ◌++◌, not, length, take}
use Rattle.search.specs.Choice.{◌when◌else◌}
use Rattle.table.specs.Limits.{max_chains}
use Rattle.merging.specs.Versions.{Versions}
use Rattle.merging.specs.Rule.{among, joined, order}

-- as many ids as three tables can have
abbrev pub most_ids : ℕ
most_ids = 3 * max_chains

-- after the first `end` numbers the id, unless it is among the first n, which stay
pub record Added (before : List ℕ) (n end id : ℕ) (after : List ℕ) (r : ℕ) : Type 0 where
  pub numbers : take r after ≡ take end before ++ (id ∷ [] when not (among (take n before) id) else [])
  pub first : take n after ≡ take n before
  pub least : end ≤ r
  pub most : r ≤ end + 1
  pub long : length after ≡ length before

-- after the first n numbers, those of a list that are not among them; at most 16 more
pub record Joined (before : List ℕ) (n : ℕ) (more after : List ℕ) (r : ℕ) : Type 0 where
  pub numbers : take r after ≡ joined (take n before) more
  pub few : r ≤ n + max_chains
  pub long : length after ≡ length before

-- the first r numbers are the ids in order
pub record Ordered (v : Versions) (ids : List ℕ) (r : ℕ) : Type 0 where
  pub numbers : take r ids ≡ order v
  pub few : r ≤ length ids
