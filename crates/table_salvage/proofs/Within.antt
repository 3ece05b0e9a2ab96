-- What an accepted salvage has used is within its buffers, and the table in it is accepted. Assumes nothing.
use Prim.Native.Nat.{ℕ, ◌≤◌}
use native.Mathlib.Omega.{arith}
use mathlib.Core.Path.{◌≡◌, sym, ap, ◌∙◌}
use mathlib.Core.List.{List, ◌++◌}
use lib.ListN.{length, take, drop, length-append}
use lib.Seq.{take_at}
use Rattle.std.specs.Prelude.{is_ok, Ok}
use Rattle.search.proofs.Choice.{when_yes}
use Rattle.table.specs.Bytes.{Bytes}
use Rattle.table.specs.Code.Taken.{Taken}
use Rattle.table.proofs.Accepted.{taken}
use Rattle.salvaging.specs.Salvage.{Answer, table_kept, list_skipped, buffer_after, Salvages}
use Rattle.salvaging.specs.declared.Lengths.{Lengths}
use Rattle.salvaging.proofs.Results.{kept-bytes, kept-accepted}
use Rattle.salvaging.proofs.Answers.{Made, made}

module _ {s table list tableAfter listAfter : List ℕ} {answer : Answer} (salvages : Salvages s table list answer tableAfter listAfter) (used : Lengths) (e : answer ≡ Ok used) where
  uses : Made s used
  uses = made salvages e

  -- each buffer holds its result
  left : (result buffer : List ℕ) → buffer_after answer result buffer ≡ result ++ drop (length result) buffer
  left result buffer = when_yes _ _ (ap is_ok e)

  pub table-within : used.table ≤ length tableAfter
  table-within = let t = table_kept s in omega (arith, uses.table_long, ap length (salvages.leaves_table ∙ left t table), length-append t (drop (length t) table))

  pub list-within : used.list ≤ length listAfter
  list-within = let l = list_skipped s in omega (arith, uses.list_long, ap length (salvages.leaves_list ∙ left l list), length-append l (drop (length l) list))

  -- the table is accepted, so its chains can be read
  pub table_taken : Bytes s → Taken (take used.table tableAfter)
  table_taken bytes =
      let t = table_kept s in
      rw (salvages.leaves_table ∙ left t table, take_at t (drop (length t) table) used.table (sym uses.table_long))
      (taken t (kept-bytes s bytes) (kept-accepted s bytes uses.some))
