-- The record of the chain that is found, or none.
use Prim.Native.Nat.{ℕ, ◌+◌, ◌-◌, ◌<◌, ◌≤◌}
use mathlib.Core.Path.{◌≡◌, ap, ap₂, sym, ◌∙◌}
use mathlib.Core.List.{List}
use lib.ListN.{take, drop}
use native.Mathlib.Omega.{arith}
use native.Mathlib.Nat.{le_of_eq}
use Rattle.table.specs.Find.{row_of, find_of}
use Rattle.table.specs.Place.{length_of}
use Rattle.table.specs.Read.{table_of}
use Rattle.table.specs.Code.Taken.{Stands}
use Rattle.table.proofs.Finds.{find_le}
use Rattle.table.proofs.Stands.{length-at, row-there, stands}
use Rattle.slices.specs.Stored.{record_of}
use Rattle.merging.specs.Code.Seeks.{RecordAt}
use Rattle.merging.proofs.Seeks.{chain-there, end-there}
use Rattle.merging.proofs.Lookup.{state_used, start-used, state_unused, start_unused}
use Rattle.merging.proofs.states.state.Goals as goal
use Rattle.merging.proofs.states.state.Goals.{After-find_near-at, Else-end_place-at}

abbrev s : (c : After-find_near-at) → List ℕ
s c = c.args.s.now

abbrev chain : (c : After-find_near-at) → ℕ
chain c = find_of (table_of (s c)) c.args.id

abbrev at : (c : After-find_near-at) → ℕ
at c = c.find_near-at.result

abbrev here : (c : After-find_near-at) → RecordAt (s c) (at c)
here c = record { chain = chain c; few = find_le (table_of (s c)) c.args.id; place = c.find_near-at.ensures }

within : (c : Else-end_place-at) → (find_of (table_of (c.args.s.now)) c.args.id) < (table_of (c.args.s.now)).count
within c = chain-there c.requires.0 ((record { chain = find_of (table_of (c.args.s.now)) c.args.id; few = find_le (table_of (c.args.s.now)) c.args.id; place = c.find_near-at.ensures })) (omega (arith, c.end_place.ensures, c.if-end_place-at.false))

there : (c : Else-end_place-at) → Stands (c.args.s.now) (c.find_near-at.result)
there c = stands c.requires.0 c.find_near-at.ensures (within c)

pub returns-then-end_place-at : goal.returns-then-end_place-at
returns-then-end_place-at c =
    let found = (goal.at.returns-then-end_place-at c).After-find_near-at in
    let last : (table_of (s found)).count ≤ chain found =
    le_of_eq (sym (end-there c.requires.0 (here found) (omega (arith, c.end_place.ensures, c.if-end_place-at.true)))) in
    let p : c.args.s.ref_ptr.1 ≡ 0 + c.args.s.ref_ptr.1 = omega arith in
    record {
      bytes = sym (state_unused (s found) c.args.id last);
      place = rw (start_unused (s found) c.args.id last) (ap (λ n. (c.args.s.ref_ptr.0, n)) p);
    }

pub record_length-requires : goal.record_length-requires
record_length-requires c = omega (arith, (there c).there)

pub overflow_add-end : goal.overflow_add-end
overflow_add-end c = omega (arith, c.record_length.ensures, (there (goal.at.overflow_add-end c).Else-end_place-at).there)

pub slice_bounds-result-end-2 : goal.slice_bounds-result-end-2
slice_bounds-result-end-2 c = omega (arith, c.record_length.ensures, (there (goal.at.slice_bounds-result-end-2 c).Else-end_place-at).there)

pub returns : goal.returns
unfolding record_of
returns c =
    let found = (goal.at.returns c).After-find_near-at in
    let inside = within (goal.at.returns c).Else-end_place-at in
    let row = row-there c.requires.0 c.find_near-at.ensures inside in
    let size : at found + c.record_length.result - at found ≡ length_of (row_of (table_of (s found)) (chain found)) =
    omega (arith, c.record_length.ensures, length-at (s found) (at found), ap length_of row) in
    record {
      bytes = ap₂ (λ n p. take n (drop p (s found))) size c.find_near-at.ensures ∙ sym (state_used (s found) c.args.id inside);
      place = ap (λ p. (c.args.s.ref_ptr.0, p + c.args.s.ref_ptr.1)) (c.find_near-at.ensures ∙ sym (start-used (s found) c.args.id inside));
    }
