-- A converted row is of its fields' widths. Assumes nothing.
use Prim.Native.Nat.{ℕ, ◌+◌, ◌<◌, ◌≤◌}
use native.Mathlib.Omega.{arith}
use native.Mathlib.Nat.{mul-le-mul}
use mathlib.Core.Logic.{⊎_elim}
use lib.ListN.{length-replicate}
use lib.Dec.{eqb}
use Rattle.search.proofs.Choice.{when_cases, lt_or_le}
use Rattle.table.specs.Limits.{max_distances}
use Rattle.table.specs.Code.Good.{GoodRow}
use Rattle.table.specs.declared.Row.{Row}
use Rattle.table.proofs.Goods.{zeros, pad-at}
use Rattle.writing.specs.Rows.{Typed}
use Rattle.writing.proofs.Typed.{pad-long, listed-few}
use Rattle.converting.specs.Forms.{multiples, converted}
use Rattle.converting.specs.declared.To.{To}
use Rattle.converting.specs.declared.To.TheVariants.{Largest, Gap}
use Rattle.converting.proofs.Multiples.{multiples-long, multiple-at, multiple-past}

pub converted-typed : (to : To) {r : Row} → GoodRow r → Typed r → Typed (converted to r)
converted-typed Largest {r} good t = record {
  form = omega arith;
  id = t.id;
  kind = t.kind;
  overload = t.overload;
  flag = when_cases (λ n. n < 256) (eqb r.gap 0) (λ e. omega arith) (λ e. omega arith);
  deadline = t.deadline;
  gap = omega arith;
  list = t.list;
  largest = λ j. rw (pad-at max_distances (multiples r.gap r.listed) j) (⊎_elim
      (λ h. rw (multiple-at r.gap r.listed j h) (omega (arith, mul-le-mul good.gap_max (le-eight j h))))
      (λ h. rw (multiple-past r.gap r.listed j h) (omega arith)) (lt_or_le j r.listed));
  priority = t.priority;
  cost = t.cost;
  list_places = t.list_places;
  largest_places = pad-long max_distances (multiples r.gap r.listed) (omega (arith, multiples-long r.gap r.listed, listed-few good));
  priority_places = t.priority_places;
  cost_places = t.cost_places;
}
  where
    le-eight : (j : ℕ) → j < r.listed → j + 1 ≤ max_distances
    le-eight j h = omega (arith, h, listed-few good)
converted-typed Gap {r} good t = record {
  form = omega arith;
  id = t.id;
  kind = t.kind;
  overload = t.overload;
  flag = omega arith;
  deadline = t.deadline;
  gap = t.largest 0;
  list = t.list;
  largest = λ j. rw (zeros max_distances j) (omega arith);
  priority = t.priority;
  cost = t.cost;
  list_places = t.list_places;
  largest_places = length-replicate {A = ℕ} max_distances 0;
  priority_places = t.priority_places;
  cost_places = t.cost_places;
}
