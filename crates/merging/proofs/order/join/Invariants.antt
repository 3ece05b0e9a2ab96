-- At the loop's head the ids of the chains before `chain` are joined: with those of the rest they give all.
use Prim.Native.Nat.{◌+◌, ◌≤◌}
use mathlib.Core.Path.{◌≡◌}
use mathlib.Core.List.{◌++◌}
use mathlib.Core.Bool.{not}
use lib.ListN.{length, take, drop}
use Rattle.search.specs.Lists.{keep}
use Rattle.table.specs.Place.{place_of}
use Rattle.table.specs.Read.{table_of}
use Rattle.merging.specs.Versions.{ids_of}
use Rattle.merging.specs.Rule.{among, joined}
use Rattle.merging.proofs.order.join.Given as goal

abbrev pub invariant-loop-chain : goal.invariant-loop-chain
invariant-loop-chain l = record {
  place : l.at ≡ place_of (table_of l.s) l.chain;
  least : l.n ≤ l.end;
  most : l.end ≤ l.n + l.chain;
  long : length l.ids ≡ length l.initial.ids;
  first : take l.n l.ids ≡ take l.n l.initial.ids;
  numbers :
      take l.end l.ids ++ keep (λ m. not (among (take l.n l.initial.ids) m)) (drop l.chain (ids_of l.s)) ≡ joined (take l.n l.initial.ids) (ids_of l.s);
}
