-- Both are measured before the first byte is put.
use Prim.Native.Nat.{ℕ, ◌+◌, ◌*◌, ◌≤◌}
use native.Mathlib.Omega.{arith}
use mathlib.Core.Path.{◌≡◌, refl, ap, sym, subst, ◌∙◌}
use mathlib.Core.List.{List, ◌++◌, map, flatten}
use lib.ListN.{length}
use lib.Dec.{ltb}
use borrow.Author.Tests.{lt-ltb}
use Rattle.table.specs.Limits.{max_chains}
use Rattle.table.proofs.Firsts.{or_left, or_right}
use Rattle.table.proofs.Words.{end-bytes}
use Rattle.slices.specs.Code.Wrote.{Wrote}
use Rattle.slices.proofs.Writes.{number-on}
use Rattle.salvaging.specs.Skipped.{skipped_from}
use Rattle.salvaging.specs.Salvage.{record_at, table_with, list_with}
use Rattle.salvaging.specs.Code.Walk.{InOrder, size_of}
use Rattle.salvaging.specs.declared.put.Size.{Size}
use Rattle.salvaging.proofs.Stretches.{list_long, records-within, skipped-few}
use Rattle.salvaging.proofs.Fits.{table_long, wrote_first, fits_not, fits_both}
use Rattle.salvaging.proofs.put.fit.Goals as goal
use Rattle.salvaging.proofs.put.fit.Goals.{After-put_u32, Else-list-size, then-table-size-via-then-table-size, then-table-size-via-else-table-size+then-list-size}

-- what is measured of the places
module _ (s places : List ℕ) where
  measured : (size : Size) → size ≡ size_of s places → size.bytes + 4 ≡ length (table_with s places)
  measured size e = ap (λ (x : Size). x.bytes + 4) e ∙ sym (table_long s places)

  counted : (size : Size) → size ≡ size_of s places → 8 * size.stretches ≡ length (list_with s places)
  counted size e = ap (λ (x : Size). 8 * x.stretches) e ∙ sym (list_long (skipped_from max_chains s 0 places))

  short : InOrder s 0 places → length (flatten (map (record_at s) places)) ≤ length s
  short h = omega (arith, records-within s 0 places h)

  few : length (list_with s places) ≤ 8 * max_chains
  few = omega (arith, list_long (skipped_from max_chains s 0 places), skipped-few max_chains s 0 places)

-- there is room for both
table-room : (c : Else-list-size) → length (table_with c.args.s.now c.args.places.now) ≤ length c.args.table.now
table-room c = omega (arith, measured c.args.s.now c.args.places.now c.size_of-size.result c.size_of-size.ensures, c.if-table-size.false)

list-room : (c : Else-list-size) → length (list_with c.args.s.now c.args.places.now) ≤ length c.args.list.now
list-room c = omega (arith, counted c.args.s.now c.args.places.now c.size_of-size.result c.size_of-size.ensures, c.if-list-size.false)

-- the records, and the end record after them
whole-table : (c : After-put_u32) → length (table_with c.args.s.now c.args.places.now) ≤ length c.args.table.now
    → Wrote c.args.table.now 0 (table_with c.args.s.now c.args.places.now) c.put_u32.new.s (c.put_records-end.result + 4)
whole-table c room = let s = c.args.s.now in
    let places = c.args.places.now in
    let end = c.put_records-end in
    subst (λ (e : List ℕ). Wrote c.args.table.now 0 (flatten (map (record_at s) places) ++ e) c.put_u32.new.s (end.result + 4)) (end-bytes (length places))
    (number-on end.ensures 4 (20037 + 65536 * length places) (end.result + 4) refl (omega (arith, end.ensures.ends, room, table_long s places)) c.put_u32.ensures)

pub overflow_add-size : goal.overflow_add-size
overflow_add-size c = let s = c.args.s.now in
    let places = c.args.places.now in
    omega (arith, measured s places c.size_of-size.result c.size_of-size.ensures, table_long s places, short s places c.requires.0, c.requires.2)

pub overflow_mul-size : goal.overflow_mul-size
overflow_mul-size c = let s = c.args.s.now in
    let places = c.args.places.now in
    omega (arith, counted s places c.size_of-size.result c.size_of-size.ensures, few s places)

pub returns-then-table-size : goal.returns-then-table-size
returns-then-table-size c = let s = c.args.s.now in
    let places = c.args.places.now in
    let size = c.size_of-size in
    fits_not s places c.args.table.now c.args.list.now
    (elim c.then-table-size.branch [
      | then-table-size-via-then-table-size w ↦ or_left _ _ (lt-ltb (length c.args.table.now) (length (table_with s places)) (omega (arith, w.if-table-size.true, measured s places size.result size.ensures)))
      | then-table-size-via-else-table-size+then-list-size w ↦
          or_right (ltb (length c.args.table.now) (length (table_with s places))) _
          (lt-ltb (length c.args.list.now) (length (list_with s places)) (omega (arith, w.if-list-size.true, counted s places size.result size.ensures)))
    ])

pub put_records-end-requires : goal.put_records-end-requires
put_records-end-requires c = (c.requires.0, omega (arith, table-room (goal.at.put_records-end-requires c).Else-list-size, table_long c.args.s.now c.args.places.now))

pub put_u32-requires : goal.put_u32-requires
put_u32-requires c = let end = c.put_records-end.ensures in
    omega (arith, end.ends, end.long, table-room (goal.at.put_u32-requires c).Else-list-size, table_long c.args.s.now c.args.places.now)

pub put_stretches-used-requires : goal.put_stretches-used-requires
put_stretches-used-requires c = (c.requires.0, c.requires.1, c.requires.2, list-room (goal.at.put_stretches-used-requires c).Else-list-size)

pub overflow_cast-result : goal.overflow_cast-result
overflow_cast-result c = omega (arith, c.put_records-end.ensures.ends, short c.args.s.now c.args.places.now c.requires.0, c.requires.2)

pub overflow_cast-result-2 : goal.overflow_cast-result-2
overflow_cast-result-2 c = omega (arith, c.put_stretches-used.ensures.ends, few c.args.s.now c.args.places.now)

pub returns : goal.returns
returns c = let list = c.put_stretches-used in
    let room = table-room (goal.at.returns c).Else-list-size in
    let whole = whole-table (goal.at.returns c).After-put_u32 room in
    fits_both c.args.s.now c.args.places.now c.args.table.now c.args.list.now room (list-room (goal.at.returns c).Else-list-size)
    (omega (arith, whole.ends)) (omega (arith, list.ensures.ends)) (wrote_first whole) (wrote_first list.ensures)
