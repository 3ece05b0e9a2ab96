-- With those of the ids from i on, conflict, bytes and records are those of all.
use Prim.Native.Nat.{ℕ, ◌+◌, ◌≤◌}
use mathlib.Core.Path.{◌≡◌, ap, sym, ◌∙◌}
use mathlib.Core.List.{List, [], flatten}
use mathlib.Core.Bool.{Bool, true, false, ◌&&◌}
use lib.Dec.{ltb}
use lib.ListN.{length, drop, get_or}
use lib.Seq.{drop-length}
use native.Mathlib.Omega.{arith}
use Rattle.std.specs.Int.{from_bool}
use Rattle.search.specs.Choice.{◌when◌else◌}
use Rattle.search.specs.Lists.{keep}
use Rattle.search.proofs.Rest.{rest}
use Rattle.table.proofs.Standing.{longest_record}
use Rattle.merging.specs.Rule.{taken_of, conflict_of, lesser, least}
use Rattle.merging.specs.Merge.{versions, is_record}
use Rattle.merging.specs.declared.states.Weight.{Weight}
use Rattle.merging.specs.declared.result.Size.{Size}
use Rattle.merging.specs.Code.Size.{states_of, least_of}
use Rattle.merging.proofs.Seeks.{first_record}
use Rattle.merging.proofs.Leasts.{lesser-left, lesser-right, lesser-on}
use Rattle.merging.proofs.Weights.{weight-bytes, weight-conflict, above_zero}
use Rattle.merging.proofs.Sizes.{taken-short, more_bytes, more-records, states-rest}
use Rattle.merging.proofs.result.size_of.Goals as goal
use Rattle.merging.proofs.result.size_of.Goals.{After-from-records, After-weigh-weight}

same_size : {a b x y m n : ℕ} → a ≡ b → x ≡ y → m ≡ n → ◌≡◌ {A = Size} (record { conflict = a; bytes = x; records = m }) (record { conflict = b; bytes = y; records = n })
same_size e f g = rw (e, f, g)

-- what is weighed is the state that is taken, which is short, and counts at most once
weighed : (c : After-weigh-weight) → c.weigh-weight.result.bytes ≡ length (taken_of ((versions c.args.ancestor c.args.first c.args.second)) (get_or c.args.ids.now c.loop-id.id-index 0))
weighed c = ap (λ (w : Weight). w.bytes) c.weigh-weight.ensures ∙ weight-bytes _ _

short : (c : After-weigh-weight) → c.weigh-weight.result.bytes ≤ longest_record
short c = rw (weighed c) (taken-short c.requires.0 (get_or c.args.ids.now c.loop-id.id-index 0))

few : (c : After-from-records) → c.from-records.result ≤ 1
few c = rw c.from-records.ensures (one (ltb 0 c.weigh-weight.result.bytes))
  where
    one : (t : Bool) → from_bool t ≤ 1
    one true = omega arith
    one false = omega arith

pub loop-id-init : goal.loop-id-init
loop-id-init c = record {
  short = omega arith;
  few = omega arith;
  bytes = omega arith;
  records = omega arith;
  conflict = lesser-left _;
  in_first = first_record c.args.first.now;
  in_second = first_record c.args.second.now;
}

pub weigh-weight-requires : goal.weigh-weight-requires
weigh-weight-requires c = let l = c.loop-id.invariant in (c.requires.0, l.in_first, l.in_second)

pub step_past-a-requires : goal.step_past-a-requires
step_past-a-requires c = (c.requires.0.of_first, c.loop-id.invariant.in_first)

pub step_past-b-requires : goal.step_past-b-requires
step_past-b-requires c = (c.requires.0.of_second, c.loop-id.invariant.in_second)

pub overflow_add-bytes : goal.overflow_add-bytes
overflow_add-bytes c = omega (arith, short (goal.at.overflow_add-bytes c).After-weigh-weight, c.loop-id.invariant.short, c.requires.1)

pub overflow_add-records : goal.overflow_add-records
overflow_add-records c = omega (arith, few c, c.loop-id.invariant.few, c.requires.1)

pub loop-id-preserved : goal.loop-id-preserved
unfolding least
loop-id-preserved c = let l = c.loop-id in
    let v = versions c.args.ancestor c.args.first c.args.second in
    let ids = c.args.ids.now in
    let id = get_or ids l.id-index 0 in
    let next = drop (l.id-index + 1) ids in
    let e = states-rest v ids l.id-index (omega arith) in
    let f = ap (λ (r : List (List ℕ)). length (flatten r)) e ∙ more_bytes (taken_of v id) (states_of v next) in
    let g = ap (λ (r : List (List ℕ)). length (keep is_record r)) e ∙ more-records (taken_of v id) (states_of v next) in
    let is = weighed (goal.at.loop-id-preserved c).After-weigh-weight in
    let n = c.from-records.ensures ∙ ap (λ k. from_bool (ltb 0 k)) is in
    let one = c.lesser-conflict.ensures ∙ ap (λ (x : Weight). lesser l.conflict x.conflict) c.weigh-weight.ensures ∙ ap (lesser l.conflict) (weight-conflict v id ∙ sym (above_zero id (conflict_of v id))) in
    record {
      short = omega (arith, short (goal.at.loop-id-preserved c).After-weigh-weight, l.invariant.short);
      few = omega (arith, few c, l.invariant.few);
      bytes = omega (arith, is, f, l.invariant.bytes);
      records = omega (arith, n, g, l.invariant.records);
      conflict =
          ap (λ k. lesser k (least_of v next)) one ∙ lesser-on l.conflict (id when ltb 0 id && conflict_of v id else 0) (least_of v next)
          ∙ ap (λ (r : List ℕ). lesser l.conflict (least_of v r)) (sym (rest ids l.id-index 0 (omega arith))) ∙ l.invariant.conflict;
      in_first = c.step_past-a.ensures;
      in_second = c.step_past-b.ensures;
    }

pub returns : goal.returns
unfolding flatten keep least
returns c = let l = c.loop-id in
    let v = versions c.args.ancestor c.args.first c.args.second in
    let ids = c.args.ids.now in
    let e : l.id-index ≡ length ids = omega arith in
    let none : drop l.id-index ids ≡ [] = ap (λ k. drop k ids) e ∙ drop-length ids in
    let f = ap (λ (r : List ℕ). length (flatten (states_of v r))) none in
    let g = ap (λ (r : List ℕ). length (keep is_record (states_of v r))) none in
    let h : l.conflict ≡ least_of v ids = sym (lesser-right l.conflict) ∙ ap (λ (r : List ℕ). lesser l.conflict (least_of v r)) (sym none) ∙ l.invariant.conflict in
    let x : l.bytes ≡ length (flatten (states_of v ids)) = omega (arith, f, l.invariant.bytes) in
    let y : l.records ≡ length (keep is_record (states_of v ids)) = omega (arith, g, l.invariant.records) in
    same_size h x y
