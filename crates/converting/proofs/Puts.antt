-- The converted records put one after the other, and the whole that they make. Assumes nothing.
use Prim.Native.Nat.{ℕ, ◌+◌, ◌<◌, ◌≤◌}
use native.Mathlib.Omega.{arith}
use mathlib.Core.Path.{◌≡◌, refl, ap, ◌∙◌}
use mathlib.Core.List.{List, [], ◌∷◌, map, flatten}
use lib.ListN.{length, get_or, length-append, length-map}
use lib.Seq.{get_or-take, length-take-le}
use Rattle.search.specs.Lists.{sum_of}
use Rattle.table.specs.Limits.{max_distances, max_gap}
use Rattle.table.specs.Record.{blank}
use Rattle.table.specs.Find.{row_of, rows}
use Rattle.table.specs.Place.{length_of}
use Rattle.table.specs.Read.{table_of}
use Rattle.table.specs.Code.Good.{GoodRow}
use Rattle.table.specs.Code.Taken.{Taken}
use Rattle.table.specs.declared.Row.{Row}
use Rattle.slices.specs.Code.Wrote.{Wrote}
use Rattle.slices.proofs.Parts.{map_at}
use Rattle.writing.specs.Rows.{row_bytes}
use Rattle.writing.specs.Code.Put.{row_records}
use Rattle.writing.proofs.Pieces.{row-length}
use Rattle.writing.proofs.Loops.{records-more, records-split}
use Rattle.converting.specs.Forms.{converted}
use Rattle.converting.specs.Convert.{rows_in}
use Rattle.converting.specs.declared.To.{To}

-- records are as long as their rows say
pub records-sum : (l : List Row) → length (flatten (map row_bytes l)) ≡ sum_of length_of l
unfolding flatten sum_of
records-sum [] = refl
records-sum (r ∷ l) = omega (arith, length-append (row_bytes r) (flatten (map row_bytes l)), row-length r, records-sum l)

-- a good row's gap and list length
pub small-enough : {r : Row} → GoodRow r → (r.gap ≤ max_gap) × (r.listed ≤ max_distances)
small-enough good = (good.gap_max, omega (arith, good.listed, good.list.few))

-- the rows of an accepted table, converted
module _ (to : To) {s : List ℕ} (t : Taken s) where
  abbrev rs : List Row
  rs = rows_in to s

  long : length (rows (table_of s)) ≡ (table_of s).count
  long = length-take-le (table_of s).count (table_of s).row (omega (arith, t.good.few, t.good.size))

  pub count_in : length rs ≡ (table_of s).count
  count_in = length-map (rows (table_of s)) (converted to) ∙ long

  module _ (chain : ℕ) (h : chain < (table_of s).count) where
    pub row_in : get_or rs chain blank ≡ converted to (row_of (table_of s) chain)
    row_in = map_at (converted to) (rows (table_of s)) chain blank blank (omega (arith, long)) ∙ ap (converted to) (get_or-take (table_of s).count (table_of s).row chain blank h)

    -- the next has room where all have
    pub room_in : (buffer zs : List ℕ) (at : ℕ) → sum_of length_of rs ≤ length buffer → Wrote buffer 0 (row_records rs chain) zs at → at + length_of (converted to (row_of (table_of s) chain)) ≤ length zs
    room_in buffer zs at l w =
        let one : chain < length rs = omega (arith, count_in) in
        let more = ap length (records-split rs (chain + 1)) ∙ length-append (row_records rs (chain + 1)) _ in
        let next = ap length (records-more rs chain one) ∙ length-append (row_records rs chain) (row_bytes (get_or rs chain blank)) in
        let same = ap (λ (r : Row). length (row_bytes r)) row_in in
        omega (arith, l, records-sum rs, more, next, same, row-length (converted to (row_of (table_of s) chain)), w.ends, w.long)
