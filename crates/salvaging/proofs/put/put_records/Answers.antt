-- What is put, with the records from number i on, is all of them.
use Prim.Native.Nat.{ℕ, ◌+◌, ◌-◌, ◌<◌, ◌≤◌}
use native.Mathlib.Omega.{arith}
use mathlib.Core.Path.{◌≡◌, refl, ap, sym, subst, ◌∙◌}
use mathlib.Core.List.{List, [], ◌++◌, append_assoc, append-nil}
use lib.ListN.{length, get_or, take, drop, length-append}
use Rattle.table.specs.Record.{length_at}
use Rattle.slices.specs.Code.Wrote.{Wrote}
use Rattle.slices.proofs.Cuts.{cut-long}
use Rattle.slices.proofs.Writes.{wrote_none, wrote_put, wrote_on}
use Rattle.salvaging.specs.Salvage.{record_at}
use Rattle.salvaging.specs.Code.Walk.{InOrder}
use Rattle.salvaging.proofs.Stretches.{order-within, order-on, records-on, records-end}
use Rattle.salvaging.proofs.put.put_records.Invariants.{bytes_at}
use Rattle.salvaging.proofs.put.put_records.Goals as goal
use Rattle.salvaging.proofs.put.put_records.Goals.{After-put, After-record_length-length, In-loop-place, Start}

-- lengths are numbers of the program
wide : (c : Start) → (length c.args.s.now < 18446744073709551616) × (length c.args.places.now < 18446744073709551616) × (length c.args.out.now < 18446744073709551616)
wide c = (omega arith, omega arith, omega arith)

abbrev bytes : (c : In-loop-place) → List ℕ
bytes c = c.args.s.now

abbrev places : (c : In-loop-place) → List ℕ
places c = c.args.places.now

abbrev here : (c : In-loop-place) → ℕ
here c = get_or (places c) c.loop-place.place-index 0

next : (c : In-loop-place) → InOrder (bytes c) ((here c) + length_at (bytes c) (here c)) (drop (c.loop-place.place-index + 1) (places c))
next c = (order-on (bytes c) (places c) c.loop-place.place-index c.loop-place.invariant.at c.loop-place-test.true c.loop-place.invariant.order).1

there : (c : In-loop-place) → (here c) + length_at (bytes c) (here c) ≤ length (bytes c)
there c = order-within (bytes c) _ _ (next c)

long : (c : In-loop-place) → length (record_at (bytes c) (here c)) ≡ length_at (bytes c) (here c)
long c = cut-long (bytes c) (here c) (there c)

room : (c : In-loop-place) → c.loop-place.end + length_at (bytes c) (here c) ≤ length c.loop-place.out
room c = let l = c.loop-place in
    let more = bytes_at (bytes c) (drop (l.place-index + 1) (places c)) in
    let all = ap length (ap (λ (r : List ℕ). l.invariant.done ++ r) (sym (records-on (bytes c) (places c) l.place-index l.invariant.at c.loop-place-test.true)) ∙ l.invariant.left) in
    omega (arith, all, length-append l.invariant.done (record_at (bytes c) (here c) ++ more), length-append (record_at (bytes c) (here c)) more, (long c), l.invariant.wrote.ends, l.invariant.wrote.long, c.requires.1)

-- what is handed to be put is the record
part : (c : After-record_length-length) → let here = get_or c.args.places.now c.loop-place.place-index 0 in
    take (here + c.record_length-length.result - here) (drop here c.args.s.now) ≡ record_at c.args.s.now here
part c = let here = get_or c.args.places.now c.loop-place.place-index 0 in
    let e : here + c.record_length-length.result - here ≡ length_at c.args.s.now here = omega (arith, c.record_length-length.ensures) in
    ap (λ n. take n (drop here c.args.s.now)) e

pub loop-place-init : goal.loop-place-init
loop-place-init c = record { at = 0; done = []; few = omega arith; wrote = wrote_none c.args.out.now 0 (omega arith); left = refl; order = c.requires.0 }

pub record_length-length-requires : goal.record_length-length-requires
record_length-length-requires c = omega (arith, there (goal.at.record_length-length-requires c).In-loop-place)

pub overflow_add-place : goal.overflow_add-place
overflow_add-place c = omega (arith, there (goal.at.overflow_add-place c).In-loop-place, c.record_length-length.ensures, (wide (goal.at.overflow_add-place c).Start).0)

pub slice_bounds-put-end : goal.slice_bounds-put-end
slice_bounds-put-end c = omega (arith, there (goal.at.slice_bounds-put-end c).In-loop-place, c.record_length-length.ensures)

pub put-requires : goal.put-requires
put-requires c = rw (part (goal.at.put-requires c).After-record_length-length) (omega (arith, room (goal.at.put-requires c).In-loop-place, long (goal.at.put-requires c).In-loop-place))

pub overflow_add-end : goal.overflow_add-end
overflow_add-end c = omega (arith, room (goal.at.overflow_add-end c).In-loop-place, c.record_length-length.ensures, c.loop-place.invariant.wrote.long, (wide (goal.at.overflow_add-end c).Start).2)

pub loop-place-preserved : goal.loop-place-preserved
loop-place-preserved c = let l = c.loop-place in
    let p = (goal.at.loop-place-preserved c).In-loop-place in
    let s = bytes p in
    let one = record_at s (here p) in
    let n : length one ≡ c.record_length-length.result = long p ∙ sym c.record_length-length.ensures in
    record {
      at = here p + length_at s (here p);
      done = l.invariant.done ++ one;
      few = omega (arith, c.loop-place-test.true);
      wrote = wrote_on l.invariant.wrote (wrote_put l.out l.end one c.put.new.to c.record_length-length.result _ n refl
          (omega (arith, room p, c.record_length-length.ensures)) (c.put.ensures ∙ rw (part (goal.at.loop-place-preserved c).After-record_length-length, n)));
      left = append_assoc l.invariant.done one (bytes_at s (drop (l.place-index + 1) (places p)))
          ∙ ap (λ (r : List ℕ). l.invariant.done ++ r) (sym (records-on s (places p) l.place-index l.invariant.at c.loop-place-test.true)) ∙ l.invariant.left;
      order = next p;
    }

pub returns : goal.returns
returns c = let l = c.loop-place in
    let e : l.place-index ≡ length c.args.places.now = omega (arith, l.invariant.few, c.loop-place-test.false) in
    subst (λ text. Wrote c.args.out.now 0 text l.out l.end)
    (sym (append-nil l.invariant.done) ∙ ap (λ (r : List ℕ). l.invariant.done ++ r) (sym (records-end c.args.s.now c.args.places.now l.place-index l.invariant.at e)) ∙ l.invariant.left) l.invariant.wrote
