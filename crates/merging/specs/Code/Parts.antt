-- What the code hands on: a record as a part of the lent table, of three accepted ones.
use Rattle.std.specs.Prelude.{ℕ, ◌+◌, ◌≡◌, List}
use Rattle.std.specs.Borrow.{Bor}
use Rattle.table.specs.Code.Taken.{Taken}
use Rattle.merging.specs.Versions.{state_of, start_of}
use Rattle.merging.specs.Rule.{by_rule, taken_of}
use Rattle.merging.specs.Merge.{versions}

-- three accepted tables
pub record AllTaken (ancestor first second : List ℕ) : Type 0 where
  pub of_ancestor : Taken ancestor
  pub of_first : Taken first
  pub of_second : Taken second

-- r is the state of the id in the lent table, where it stands there
pub record StatePart (s : Bor (List ℕ)) (id : ℕ) (r : Bor (List ℕ)) : Type 0 where
  pub bytes : r.now ≡ state_of s.now id
  pub place : r.ref_ptr ≡ (s.ref_ptr.0, start_of s.now id + s.ref_ptr.1)

-- r is the state that is taken, where it stands in one of the copies
pub record TakenPart (ancestor first second : Bor (List ℕ)) (id : ℕ) (r : Bor (List ℕ)) : Type 0 where
  pub bytes : r.now ≡ taken_of (versions ancestor first second) id
  pub place : r.ref_ptr ≡ by_rule (versions ancestor first second) id (first.ref_ptr.0, start_of first.now id + first.ref_ptr.1) (second.ref_ptr.0, start_of second.now id + second.ref_ptr.1) first.ref_ptr
