-- The code's search for the record of an id, from some record on.
use Rattle.std.specs.Prelude.{ℕ, ◌<◌, ◌≤◌, ◌≡◌, List, true, eqb}
use Rattle.table.specs.Find.{row_of}
use Rattle.table.specs.Place.{place_of}
use Rattle.table.specs.Read.{table_of}

-- the record of a chain starts there, or the end record
pub record RecordAt (s : List ℕ) (at : ℕ) : Type 0 where
  pub chain : ℕ
  pub few : chain ≤ (table_of s).count
  pub place : at ≡ place_of (table_of s) chain

-- a search that started at `from` has come to `at`: from the first record on, no chain before it bears the id
pub record Passed (s : List ℕ) (id from at : ℕ) : Type 0 where
  pub there : RecordAt s at
  pub before : from ≡ 0 → (j : ℕ) → j < there.chain → eqb (row_of (table_of s) j).id id ≡ true → ⊥

-- and has found r, the record of a chain that bears the id, or the end record
pub record Seeks (s : List ℕ) (id from r : ℕ) : Type 0 where
  pub passed : Passed s id from r
  pub bears : passed.there.chain < (table_of s).count → (row_of (table_of s) passed.there.chain).id ≡ id
