-- What is put, with the stretches from number i on, is all of them.
use Prim.Native.Nat.{ℕ, ◌+◌, ◌-◌, ◌<◌, ◌≤◌}
use native.Mathlib.Omega.{arith}
use mathlib.Core.Path.{◌≡◌, refl, ap, sym, subst, ◌∙◌}
use mathlib.Core.List.{List, [], ◌++◌, flatten, append_assoc, append-nil}
use lib.ListN.{length, get_or, drop, length-append}
use Rattle.table.specs.Limits.{max_chains}
use Rattle.table.specs.Record.{length_at}
use Rattle.slices.specs.Code.Wrote.{Wrote}
use Rattle.slices.proofs.Writes.{wrote_none, wrote_on}
use Rattle.salvaging.specs.Skipped.{Stretch, between, skipped_from}
use Rattle.salvaging.specs.Code.Walk.{InOrder}
use Rattle.salvaging.proofs.Stretches.{list_of, list_append, order-within, order-on, skipped-on, skipped-end, skipped-full}
use Rattle.salvaging.proofs.put.put_stretches.Goals as goal
use Rattle.salvaging.proofs.put.put_stretches.Goals.{After-loop-place, In-loop-place}

-- there is room for one more, with what is left after it
room : (before done more : List Stretch) (one : List Stretch) (text out : List ℕ) (end : ℕ) → done ++ (one ++ more) ≡ before → length (list_of before) ≤ length text → Wrote text 0 (list_of done) out end
    → end + length (list_of one) ≤ length out
room before done more one text out end e l w =
    omega (
      arith,
      ap length (sym (list_append done (one ++ more) ∙ ap (λ (x : List ℕ). list_of done ++ x) (list_append one more)) ∙ ap list_of e),
      length-append (list_of done) (list_of one ++ list_of more),
      length-append (list_of one) (list_of more),
      l,
      w.ends,
      w.long,
    )

abbrev bytes : (c : In-loop-place) → List ℕ
bytes c = c.args.s.now

abbrev places : (c : In-loop-place) → List ℕ
places c = c.args.places.now

abbrev at : (c : In-loop-place) → ℕ
at c = c.loop-place.at

abbrev here : (c : In-loop-place) → ℕ
here c = get_or (places c) c.loop-place.place-index 0

next : (c : In-loop-place) → ((at c) ≤ (here c)) × InOrder (bytes c) ((here c) + length_at (bytes c) (here c)) (drop (c.loop-place.place-index + 1) (places c))
next c = order-on (bytes c) (places c) c.loop-place.place-index (at c) c.loop-place-test.true c.loop-place.invariant.order

there : (c : In-loop-place) → (here c) + length_at (bytes c) (here c) ≤ length (bytes c)
there c = order-within (bytes c) _ _ (next c).1

abbrev more : (c : In-loop-place) → List Stretch
more c = skipped_from (max_chains - (c.loop-place.place-index + 1)) (bytes c) ((here c) + length_at (bytes c) (here c)) (drop (c.loop-place.place-index + 1) (places c))

opened : (c : In-loop-place) → c.loop-place.invariant.done ++ (between (at c) (here c) ++ (more c)) ≡ skipped_from max_chains (bytes c) 0 (places c)
opened c = ap (λ (x : List Stretch). c.loop-place.invariant.done ++ x) (sym (skipped-on (bytes c) (places c) c.loop-place.place-index (at c) c.loop-place-test.true (omega (arith, c.loop-place-test.true, c.requires.1)))) ∙ c.loop-place.invariant.left

at-end : (c : After-loop-place) → c.loop-place.place-index ≡ length c.args.places.now
at-end c = omega (arith, c.loop-place.invariant.few, c.loop-place-test.false)

rest-there : (c : After-loop-place) → length c.args.places.now < max_chains
    → c.loop-place.invariant.done ++ (between c.loop-place.at (length c.args.s.now) ++ []) ≡ skipped_from max_chains c.args.s.now 0 c.args.places.now
rest-there c h = ap (λ (x : List Stretch). c.loop-place.invariant.done ++ x)
    (append-nil _ ∙ sym (skipped-end c.args.s.now c.args.places.now c.loop-place.place-index c.loop-place.at (at-end c) h)) ∙ c.loop-place.invariant.left

pub loop-place-init : goal.loop-place-init
unfolding flatten
loop-place-init c = record { done = []; few = omega arith; wrote = wrote_none c.args.out.now 0 (omega arith); left = refl; order = c.requires.0 }

pub put_stretch-end-requires : goal.put_stretch-end-requires
put_stretch-end-requires c = let l = c.loop-place in
    let p = (goal.at.put_stretch-end-requires c).In-loop-place in
    (omega (arith, there p, c.requires.2), room _ l.invariant.done (more p) (between (at p) (here p)) c.args.out.now l.out l.end (opened p) c.requires.3 l.invariant.wrote)

pub record_length-requires : goal.record_length-requires
record_length-requires c = omega (arith, there (goal.at.record_length-requires c).In-loop-place)

pub overflow_add-at : goal.overflow_add-at
overflow_add-at c = omega (arith, there (goal.at.overflow_add-at c).In-loop-place, c.record_length.ensures, c.requires.2)

pub loop-place-preserved : goal.loop-place-preserved
loop-place-preserved c = let l = c.loop-place in
    let p = (goal.at.loop-place-preserved c).In-loop-place in
    let gap = between (at p) (here p) in
    let one : c.record_length.result ≡ length_at (bytes p) (here p) = c.record_length.ensures in
    rw one record {
      done = l.invariant.done ++ gap;
      few = omega (arith, c.loop-place-test.true);
      wrote = rw (list_append l.invariant.done gap) (wrote_on l.invariant.wrote c.put_stretch-end.ensures);
      left = append_assoc l.invariant.done gap (more p) ∙ opened p;
      order = (next p).1;
    }

pub put_stretch-requires : goal.put_stretch-requires
put_stretch-requires c = let l = c.loop-place in
    (c.requires.2, room _ l.invariant.done [] (between l.at (length c.args.s.now)) c.args.out.now l.out l.end (rest-there (goal.at.put_stretch-requires c).After-loop-place c.if-places-lt-CHAINS.true) c.requires.3 l.invariant.wrote)

pub returns-then-places-lt-CHAINS : goal.returns-then-places-lt-CHAINS
returns-then-places-lt-CHAINS c = let l = c.loop-place in
    let gap = between l.at (length c.args.s.now) in
    subst (λ text. Wrote c.args.out.now 0 text c.put_stretch.new.out c.put_stretch.result)
    (sym (list_append l.invariant.done gap) ∙ ap (λ (x : List Stretch). list_of (l.invariant.done ++ x)) (sym (append-nil gap)) ∙ ap list_of (rest-there (goal.at.returns-then-places-lt-CHAINS c).After-loop-place c.if-places-lt-CHAINS.true))
    (wrote_on l.invariant.wrote c.put_stretch.ensures)

pub returns : goal.returns
returns c = let l = c.loop-place in
    subst (λ (x : List Stretch). Wrote c.args.out.now 0 (list_of x) l.out l.end)
    (sym (append-nil l.invariant.done) ∙ ap (λ (x : List Stretch). l.invariant.done ++ x) (sym (skipped-full c.args.s.now c.args.places.now l.place-index l.at (at-end (goal.at.returns c).After-loop-place) c.if-places-lt-CHAINS.false)) ∙ l.invariant.left)
    l.invariant.wrote
