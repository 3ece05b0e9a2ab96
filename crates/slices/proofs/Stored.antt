-- What is known of bytes that were read as a table. Assumes nothing.
use Prim.Native.Nat.{ℕ, ◌<◌}
use mathlib.Core.Path.{◌≡◌, ap, subst}
use mathlib.Core.List.{List}
use native.Mathlib.Omega.{arith}
use lib.ListN.{length, take, drop, length-take, length-drop}
use Rattle.table.specs.Bytes.{Bytes}
use Rattle.table.specs.Find.{row_of}
use Rattle.table.specs.Read.{accepted, read_table, table_of}
use Rattle.table.specs.Read.{Reading}
use Rattle.table.specs.Place.{length_of, place_of}
use Rattle.table.specs.Code.Good.{GoodTable}
use Rattle.table.specs.Code.Taken.{Taken, Holds}
use Rattle.table.specs.declared.Table.{Table}
use Rattle.table.specs.Refusal.{Verdict}
use Rattle.std.specs.declared.result.Result.TheVariants.{Ok}
use Rattle.table.proofs.Accepted.{taken}
use Rattle.slices.specs.Stored.{record_of}

pub accepted-read : (s : List ℕ) → (read_table s).verdict ≡ Ok tt → read_table s ≡ accepted (table_of s)
accepted-read s verdict = ap (λ (v : Verdict). record { verdict = v; table = table_of s }) verdict

module _ (s : List ℕ) (t : Table) (read : read_table s ≡ accepted t) where
  pub table_is : table_of s ≡ t
  table_is = ap (λ (r : Reading). r.table) read

  pub record_is : (chain : ℕ) → record_of s chain ≡ take (length_of (row_of t chain)) (drop (place_of t chain) s)
  unfolding record_of
  record_is chain = rw table_is

  pub stored-taken : Bytes s → Taken s
  stored-taken bytes = taken s bytes (ap (λ (r : Reading). r.verdict) read)

  pub stored-good : Bytes s → GoodTable t
  stored-good bytes = subst GoodTable table_is (stored-taken bytes).good

  pub stored-holds : Bytes s → Holds s t
  stored-holds bytes = subst (Holds s) table_is (stored-taken bytes).holds

  -- a stored record is whole
  pub record_size : Bytes s → (chain : ℕ) → chain < t.count → length (record_of s chain) ≡ length_of (row_of t chain)
  record_size bytes chain h = rw (record_is chain, length-take, length-drop) (omega (arith, (stored-holds bytes).inside chain h))
