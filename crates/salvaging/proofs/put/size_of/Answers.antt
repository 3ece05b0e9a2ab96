-- With those of the places from number i on, bytes and stretches are those of all.
use Prim.Native.Nat.{ℕ, ◌+◌, ◌-◌, ◌<◌, ◌≤◌}
use native.Mathlib.Omega.{arith}
use mathlib.Core.Path.{◌≡◌, ap, ap₂, sym, ◌∙◌}
use mathlib.Core.List.{List, map, flatten}
use lib.ListN.{length, get_or, drop, length-append}
use Rattle.table.specs.Limits.{max_chains}
use Rattle.table.specs.Record.{length_at}
use Rattle.slices.proofs.Cuts.{cut-long}
use Rattle.salvaging.specs.Skipped.{Stretch, between, skipped_from}
use Rattle.salvaging.specs.Salvage.{record_at}
use Rattle.salvaging.specs.Code.Walk.{InOrder}
use Rattle.salvaging.proofs.Stretches.{between-long, between-few, order-within, order-on, skipped-on, skipped-end, skipped-full, records-on, records-end}
use Rattle.salvaging.proofs.put.size_of.Goals as goal
use Rattle.salvaging.proofs.put.size_of.Goals.{After-counted-stretches, After-loop-place, In-loop-place, Start}

-- lengths are numbers of the program
wide : (c : Start) → length c.args.s.now < 18446744073709551616
wide c = omega arith

abbrev bytes : (c : In-loop-place) → List ℕ
bytes c = c.args.s.now

abbrev places : (c : In-loop-place) → List ℕ
places c = c.args.places.now

abbrev here : (c : In-loop-place) → ℕ
here c = get_or (places c) c.loop-place.place-index 0

next : (c : In-loop-place) → (c.loop-place.at ≤ here c) × InOrder (bytes c) (here c + length_at (bytes c) (here c)) (drop (c.loop-place.place-index + 1) (places c))
next c = order-on (bytes c) (places c) c.loop-place.place-index c.loop-place.at c.loop-place-test.true c.loop-place.invariant.order

there : (c : In-loop-place) → here c + length_at (bytes c) (here c) ≤ length (bytes c)
there c = order-within (bytes c) _ _ (next c).1

counted_is : (c : After-counted-stretches) → c.counted-stretches.result ≡ length (between c.loop-place.at (get_or c.args.places.now c.loop-place.place-index 0))
counted_is c = c.counted-stretches.ensures ∙ sym (between-long c.loop-place.at (get_or c.args.places.now c.loop-place.place-index 0))

-- after the loop
abbrev input : (c : After-loop-place) → List ℕ
input c = c.args.s.now

abbrev all-places : (c : After-loop-place) → List ℕ
all-places c = c.args.places.now

at-end : (c : After-loop-place) → c.loop-place.place-index ≡ length (all-places c)
at-end c = omega (arith, c.loop-place.invariant.few, c.loop-place-test.false)

counts_end : (c : After-loop-place) → c.loop-place.bytes ≡ length (flatten (map (record_at (input c)) (all-places c)))
counts_end c = omega (arith, c.loop-place.invariant.counts, ap (λ (r : List ℕ). length r) (records-end (input c) (all-places c) c.loop-place.place-index c.loop-place.at (at-end c)))

pub loop-place-init : goal.loop-place-init
loop-place-init c = record { few = omega arith; counts = omega arith; most = omega arith; gaps = omega arith; least = omega arith; order = c.requires.0 }

pub record_length-length-requires : goal.record_length-length-requires
record_length-length-requires c = omega (arith, there (goal.at.record_length-length-requires c).In-loop-place)

pub overflow_add-stretches : goal.overflow_add-stretches
overflow_add-stretches c = omega (arith, counted_is c, between-few c.loop-place.at (here (goal.at.overflow_add-stretches c).In-loop-place), c.loop-place.invariant.least, c.loop-place.invariant.few, c.requires.1)

pub overflow_add-bytes : goal.overflow_add-bytes
overflow_add-bytes c = omega (arith, there (goal.at.overflow_add-bytes c).In-loop-place, (next (goal.at.overflow_add-bytes c).In-loop-place).0, c.loop-place.invariant.most, c.record_length-length.ensures, wide (goal.at.overflow_add-bytes c).Start)

pub overflow_add-at : goal.overflow_add-at
overflow_add-at c = omega (arith, there (goal.at.overflow_add-at c).In-loop-place, c.record_length-length.ensures, wide (goal.at.overflow_add-at c).Start)

pub loop-place-preserved : goal.loop-place-preserved
loop-place-preserved c = let p = (goal.at.loop-place-preserved c).In-loop-place in
    let i = c.loop-place.place-index in
    let v = c.loop-place.invariant in
    let s = bytes p in
    let ps = places p in
    let one : length_at s (here p) ≡ c.record_length-length.result = sym c.record_length-length.ensures in
    let gap = between c.loop-place.at (here p) in
    let more = skipped_from (max_chains - (i + 1)) s (here p + length_at s (here p)) (drop (i + 1) ps) in
    let records = ap (λ (r : List ℕ). length r) (records-on s ps i c.loop-place.at c.loop-place-test.true) in
    let stretches = ap (λ (r : List Stretch). length r) (skipped-on s ps i c.loop-place.at c.loop-place-test.true (omega (arith, c.loop-place-test.true, c.requires.1))) in
    rw (← one) record {
      few = omega (arith, c.loop-place-test.true);
      counts = omega (arith, v.counts, records, length-append (record_at s (here p)) (flatten (map (record_at s) (drop (i + 1) ps))), cut-long s (here p) (there p));
      most = omega (arith, v.most, (next p).0);
      gaps = omega (arith, v.gaps, stretches, length-append gap more, counted_is c);
      least = omega (arith, v.least, counted_is c, between-few c.loop-place.at (here p));
      order = (next p).1;
    }

pub overflow_add-stretches-then-places-lt-CHAINS : goal.overflow_add-stretches-then-places-lt-CHAINS
overflow_add-stretches-then-places-lt-CHAINS c = let l = c.loop-place in
    let gap = c.counted-stretches-then-places-lt-CHAINS.ensures ∙ sym (between-long l.at (length c.args.s.now)) in
    omega (arith, gap, between-few l.at (length c.args.s.now), l.invariant.least, l.invariant.few, c.requires.1)

pub returns-then-places-lt-CHAINS : goal.returns-then-places-lt-CHAINS
returns-then-places-lt-CHAINS c = let records = counts_end (goal.at.returns-then-places-lt-CHAINS c).After-loop-place in
    let stretches = ap (λ (r : List Stretch). length r) (skipped-end c.args.s.now c.args.places.now c.loop-place.place-index c.loop-place.at (at-end (goal.at.returns-then-places-lt-CHAINS c).After-loop-place) c.if-places-lt-CHAINS.true) in
    let gap = c.counted-stretches-then-places-lt-CHAINS.ensures ∙ sym (between-long c.loop-place.at (length c.args.s.now)) in
    ap₂ (λ (a b : ℕ). record { bytes = a; stretches = b }) records (omega (arith, c.loop-place.invariant.gaps, stretches, gap))

pub returns-else-places-lt-CHAINS : goal.returns-else-places-lt-CHAINS
returns-else-places-lt-CHAINS c = let stretches = ap (λ (r : List Stretch). length r) (skipped-full c.args.s.now c.args.places.now c.loop-place.place-index c.loop-place.at (at-end (goal.at.returns-else-places-lt-CHAINS c).After-loop-place) c.if-places-lt-CHAINS.false) in
    ap₂ (λ (a b : ℕ). record { bytes = a; stretches = b }) (counts_end (goal.at.returns-else-places-lt-CHAINS c).After-loop-place) (omega (arith, c.loop-place.invariant.gaps, stretches))
