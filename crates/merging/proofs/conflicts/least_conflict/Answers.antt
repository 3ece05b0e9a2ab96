-- The smallest so far, and those from i on, give the smallest of all.
use Prim.Native.Nat.{◌+◌}
use mathlib.Core.Path.{◌≡◌, ap, sym, ◌∙◌}
use lib.Dec.{ltb}
use lib.ListN.{length, drop, get_or}
use lib.Seq.{drop-length}
use native.Mathlib.Omega.{arith}
use Rattle.search.specs.Choice.{◌when◌else◌}
use Rattle.search.proofs.Rest.{rest}
use Rattle.merging.specs.Rule.{conflict_of, lesser, least}
use Rattle.merging.specs.Merge.{versions}
use Rattle.merging.specs.declared.states.Weight.{Weight}
use Rattle.merging.proofs.Leasts.{lesser-left, lesser-right, lesser-on}
use Rattle.merging.proofs.Seeks.{first_record}
use Rattle.merging.proofs.Weights.{weight-conflict, only-counted}
use Rattle.merging.proofs.conflicts.least_conflict.Invariants.{passes}
use Rattle.merging.proofs.conflicts.least_conflict.Goals as goal

pub loop-id-init : goal.loop-id-init
loop-id-init c = (lesser-left _, first_record c.args.first.now, first_record c.args.second.now)

pub weigh-weight-requires : goal.weigh-weight-requires
weigh-weight-requires c = let l = c.loop-id in (c.requires, l.invariant.1, l.invariant.2)

pub step_past-a-requires : goal.step_past-a-requires
step_past-a-requires c = (c.requires.of_first, c.loop-id.invariant.1)

pub step_past-b-requires : goal.step_past-b-requires
step_past-b-requires c = (c.requires.of_second, c.loop-id.invariant.2)

pub loop-id-preserved : goal.loop-id-preserved
unfolding least
loop-id-preserved c = let l = c.loop-id in
    let a = c.args in
    let v = versions a.ancestor a.first a.second in
    let p = passes v a.above in
    let id = get_or a.ids.now l.id-index 0 in
    let one = c.only_above.ensures ∙ ap (λ n. n when ltb a.above n else 0) (ap (λ (w : Weight). w.conflict) c.weigh-weight.ensures ∙ weight-conflict v id) ∙ only-counted a.above id (conflict_of v id) in (
      ap (λ n. lesser n (least p (drop (l.id-index + 1) a.ids.now))) (c.lesser-found.ensures ∙ ap (lesser l.found) one)
          ∙ lesser-on l.found (id when p id else 0) (least p (drop (l.id-index + 1) a.ids.now))
          ∙ ap (λ r. lesser l.found (least p r)) (sym (rest a.ids.now l.id-index 0 (omega arith)))
          ∙ l.invariant.0,
      c.step_past-a.ensures,
      c.step_past-b.ensures,
    )

pub returns : goal.returns
unfolding least
returns c = let l = c.loop-id in
    let a = c.args in
    let p = passes (versions a.ancestor a.first a.second) a.above in
    let e : l.id-index ≡ length a.ids.now = omega arith in
    sym (lesser-right l.found) ∙ ap (λ r. lesser l.found (least p r)) (sym (ap (λ k. drop k a.ids.now) e ∙ drop-length a.ids.now)) ∙ l.invariant.0
