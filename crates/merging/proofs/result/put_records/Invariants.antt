-- The first bytes, with the states of the ids from i on, are the states of all.
use Prim.Native.Nat.{◌≤◌}
use mathlib.Core.Path.{◌≡◌}
use mathlib.Core.List.{◌++◌, flatten}
use lib.ListN.{length, take, drop}
use Rattle.merging.specs.Versions.{three}
use Rattle.merging.specs.Code.Size.{states_of}
use Rattle.merging.specs.Code.Seeks.{RecordAt}
use Rattle.merging.proofs.result.put_records.Given as goal

abbrev pub invariant-loop-id : goal.invariant-loop-id
invariant-loop-id l = let v = three l.ancestor l.first l.second in
    record {
      inside : l.at ≤ length l.out;
      long : length l.out ≡ length l.initial.out;
      bytes : take l.at l.out ++ flatten (states_of v (drop l.id-index l.ids)) ≡ flatten (states_of v l.ids);
      in_first : RecordAt l.first l.a;
      in_second : RecordAt l.second l.b;
    }
