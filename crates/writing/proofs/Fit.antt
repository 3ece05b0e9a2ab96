-- What the type of a row says of its values. Assumes nothing.
use Prim.Native.Nat.{ℕ, zero, suc, ◌^◌, ◌<◌}
use native.Mathlib.Omega.{arith}
use mathlib.Core.List.{List, [], ◌∷◌}
use lib.ListN.{get_or}
use mir.Syntax.{Width, w16, w32}
use mir.Val.{Val, bits}
use denote.Laws.{Is}
use denote.Shadow.{shadow}
use denote.Array.{each}
use denote.Struct.Declared.{row}
use denote.Struct.Field.{uint_field}
use Rattle.table.specs.contracts.Row.{the_type}
use Rattle.table.specs.declared.Row.{Row}
use Rattle.writing.specs.Rows.{Typed}

-- each number of an array is of the elements' width
each_below : (w : Width) → 0 < 2 ^ bits w → (xs : List ℕ) (us : List Val) → shadow (each ℕ (uint_field w).row.own_val xs us) → (j : ℕ) → get_or xs j 0 < 2 ^ bits w
each_below w p [] [] h j = p
each_below w p [] (u ∷ us) h j = absurd h
each_below w p (x ∷ xs) [] h j = absurd h
each_below w p (x ∷ xs) (u ∷ us) h zero = h.0.1
each_below w p (x ∷ xs) (u ∷ us) h (suc j) = each_below w p xs us h.1 j

-- the fields in their order
pub row_fits : (r : Row) (vs : List Val) → Is (row the_type) r vs → Typed r
row_fits r vs h =
    let f = h.1.1 in
    let list = f.1.1.1.1.1.1.1.1.1.0 in
    let largest = f.1.1.1.1.1.1.1.1.1.1.0 in
    let priority = f.1.1.1.1.1.1.1.1.1.1.1.0 in
    let cost = f.1.1.1.1.1.1.1.1.1.1.1.1.0 in
    record {
      form = f.0.1;
      id = f.1.0.1;
      kind = f.1.1.0.1;
      overload = f.1.1.1.0.1;
      flag = f.1.1.1.1.0.1;
      deadline = f.1.1.1.1.1.0.1;
      gap = f.1.1.1.1.1.1.0.1;
      list = each_below w32 (omega arith) r.list list.0 list.1.1;
      largest = each_below w32 (omega arith) r.largest largest.0 largest.1.1;
      priority = each_below w16 (omega arith) r.priority priority.0 priority.1.1;
      cost = each_below w32 (omega arith) r.cost cost.0 cost.1.1;
      list_places = list.1.0.1;
      largest_places = largest.1.0.1;
      priority_places = priority.1.0.1;
      cost_places = cost.1.0.1;
    }
