-- The first bytes, with the states of the ids from i on, are the states of all.
use Prim.Native.Nat.{ℕ, ◌+◌, ◌≤◌, ◌<◌}
use mathlib.Core.Path.{◌≡◌, refl, ap, sym, ◌∙◌}
use mathlib.Core.List.{List, [], ◌++◌, flatten, append_assoc, append-nil}
use lib.ListN.{length, take, drop, get_or, length-append}
use lib.Seq.{drop-length, length-take-le, take_at}
use native.Mathlib.Omega.{arith}
use Rattle.slices.specs.Slices.{splice}
use Rattle.slices.proofs.Splices.{put-length}
use Rattle.merging.specs.Rule.{taken_of}
use Rattle.merging.specs.Merge.{versions}
use Rattle.merging.specs.Code.Size.{states_of}
use Rattle.merging.proofs.Seeks.{first_record}
use Rattle.merging.proofs.Sizes.{states-rest}
use Rattle.merging.proofs.result.put_records.Goals as goal
use Rattle.merging.proofs.result.put_records.Goals.{After-taken-record, Start}

-- a length is a number of the program
wide : (c : Start) → length c.args.out.now < 18446744073709551616
wide c = omega arith

-- there is room for the record
fits : (c : After-taken-record) → c.loop-id.at + length c.taken-record.result.now ≤ length c.loop-id.out
unfolding flatten
fits c = let l = c.loop-id in
    let v = versions c.args.ancestor c.args.first c.args.second in
    let ids = c.args.ids.now in
    let one = taken_of v (get_or ids l.id-index 0) in
    let more = flatten (states_of v (drop (l.id-index + 1) ids)) in
    let all = ap length (ap (λ r. take l.at l.out ++ r) (sym (ap flatten (states-rest v ids l.id-index (omega arith)))) ∙ l.invariant.bytes) in
    omega (arith, all, length-append (take l.at l.out) (one ++ more), length-append one more, length-take-le l.at l.out l.invariant.inside, ap length c.taken-record.ensures.bytes, c.requires.1, l.invariant.long)

pub loop-id-init : goal.loop-id-init
loop-id-init c = record {
  inside = omega arith;
  long = refl;
  bytes = refl;
  in_first = first_record c.args.first.now;
  in_second = first_record c.args.second.now;
}

pub taken-record-requires : goal.taken-record-requires
taken-record-requires c = let l = c.loop-id in (c.requires.0, l.invariant.in_first, l.invariant.in_second)

pub step_past-a-requires : goal.step_past-a-requires
step_past-a-requires c = (c.requires.0.of_first, c.loop-id.invariant.in_first)

pub step_past-b-requires : goal.step_past-b-requires
step_past-b-requires c = (c.requires.0.of_second, c.loop-id.invariant.in_second)

pub put-requires : goal.put-requires
put-requires c = fits (goal.at.put-requires c).After-taken-record

pub overflow_add-at : goal.overflow_add-at
overflow_add-at c = omega (arith, fits (goal.at.overflow_add-at c).After-taken-record, c.loop-id.invariant.long, wide (goal.at.overflow_add-at c).Start)

pub loop-id-preserved : goal.loop-id-preserved
unfolding flatten
loop-id-preserved c = let l = c.loop-id in
    let v = versions c.args.ancestor c.args.first c.args.second in
    let ids = c.args.ids.now in
    let one = c.taken-record.result.now in
    let more = flatten (states_of v (drop (l.id-index + 1) ids)) in
    let there = put-length l.out l.at one (fits (goal.at.loop-id-preserved c).After-taken-record) in
    let after : c.put.new.to ≡ splice l.out l.at (length one) one = c.put.ensures in
    let first : take (l.at + length one) c.put.new.to ≡ take l.at l.out ++ one =
    ap (take (l.at + length one)) after
    ∙ take_at (take l.at l.out ++ one) (drop (l.at + length one) l.out) (l.at + length one)
    (length-append (take l.at l.out) one ∙ ap (λ n. n + length one) (length-take-le l.at l.out l.invariant.inside)) in
    record {
      inside = omega (arith, ap length after, there, fits (goal.at.loop-id-preserved c).After-taken-record);
      long = ap length after ∙ there ∙ l.invariant.long;
      bytes =
          ap (λ r. r ++ more) first ∙ append_assoc (take l.at l.out) one more
          ∙ ap (λ r. take l.at l.out ++ r) (ap (λ r. r ++ more) c.taken-record.ensures.bytes ∙ sym (ap flatten (states-rest v ids l.id-index (omega arith))))
          ∙ l.invariant.bytes;
      in_first = c.step_past-a.ensures;
      in_second = c.step_past-b.ensures;
    }

pub returns : goal.returns
unfolding flatten
returns c = let l = c.loop-id in
    let v = versions c.args.ancestor c.args.first c.args.second in
    let ids = c.args.ids.now in
    let e : l.id-index ≡ length ids = omega arith in
    let none : drop l.id-index ids ≡ [] = ap (λ k. drop k ids) e ∙ drop-length ids in
    let first : take l.at l.out ≡ flatten (states_of v ids) =
    sym (append-nil (take l.at l.out)) ∙ ap (λ (r : List ℕ). take l.at l.out ++ flatten (states_of v r)) (sym none) ∙ l.invariant.bytes in
    record { first = first; all = sym (length-take-le l.at l.out l.invariant.inside) ∙ ap length first; long = l.invariant.long }
