-- With those of the ids from i on, conflict, bytes and records are those of all.
use Prim.Native.Nat.{◌+◌, ◌*◌, ◌≤◌}
use mathlib.Core.Path.{◌≡◌}
use mathlib.Core.List.{flatten}
use lib.ListN.{length, drop}
use Rattle.search.specs.Lists.{keep}
use Rattle.table.proofs.Standing.{longest_record}
use Rattle.merging.specs.Versions.{three}
use Rattle.merging.specs.Rule.{lesser}
use Rattle.merging.specs.Merge.{is_record}
use Rattle.merging.specs.Code.Size.{states_of, least_of}
use Rattle.merging.specs.Code.Seeks.{RecordAt}
use Rattle.merging.proofs.result.size_of.Given as goal

abbrev pub invariant-loop-id : goal.invariant-loop-id
invariant-loop-id l = let v = three l.ancestor l.first l.second in
    let left = drop l.id-index l.ids in
    record {
      short : l.bytes ≤ longest_record * l.id-index;
      few : l.records ≤ l.id-index;
      bytes : l.bytes + length (flatten (states_of v left)) ≡ length (flatten (states_of v l.ids));
      records : l.records + length (keep is_record (states_of v left)) ≡ length (keep is_record (states_of v l.ids));
      conflict : lesser l.conflict (least_of v left) ≡ least_of v l.ids;
      in_first : RecordAt l.first l.a;
      in_second : RecordAt l.second l.b;
    }
