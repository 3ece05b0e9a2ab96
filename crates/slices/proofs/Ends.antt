-- The last four bytes of an accepted table are its end record. Assumes nothing.
use Prim.Native.Nat.{ℕ, ◌+◌}
use native.Mathlib.Omega.{arith}
use mathlib.Core.Path.{◌≡◌, ap, sym, ◌∙◌}
use mathlib.Core.List.{List}
use lib.ListN.{length, take, drop, length-drop}
use lib.Seq.{take-add, take_all, drop-drop}
use Rattle.table.specs.Bytes.{word, bytes_of, Bytes}
use Rattle.table.specs.Record.{end_record}
use Rattle.table.specs.Place.{place_of}
use Rattle.table.specs.Read.{read_table, table_of}
use Rattle.std.specs.declared.result.Result.TheVariants.{Ok}
use Rattle.table.proofs.Marks.{mark-number}
use Rattle.table.proofs.Words.{word_back}
use Rattle.table.proofs.Accepted.{taken}

module _ (s : List ℕ) (bytes : Bytes s) (verdict : (read_table s).verdict ≡ Ok tt) where
  abbrev end : ℕ
  end = place_of (table_of s) (table_of s).count

  pub end-stored : end_record (table_of s).count ≡ drop end s
  end-stored =
      let holds = (taken s bytes verdict).holds in
      let mark : word 2 s end ≡ 20037 = mark-number (word 2 s end) holds.end_mark (omega arith) in
      let long : end + 4 ≡ length s = holds.ends in
      let first : bytes_of 2 20037 ≡ take 2 (drop end s) = ap (bytes_of 2) (sym mark) ∙ word_back 2 s end bytes (omega arith) in
      let second : bytes_of 2 (table_of s).count ≡ take 2 (drop 2 (drop end s)) =
      ap (bytes_of 2) (sym holds.counts) ∙ word_back 2 s (end + 2) bytes (omega arith) ∙ ap (take 2) (sym (drop-drop 2 end s)) in
      rw (first, second) (sym (take-add 2 2 (drop end s)) ∙ take_all 4 (drop end s) (omega (arith, length-drop end s)))
