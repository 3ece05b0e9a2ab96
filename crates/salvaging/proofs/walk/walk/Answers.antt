-- The places found, with what is kept from `at` on beside their rows, are all that are kept.
use Prim.Native.Nat.{ℕ, ◌+◌, ◌*◌, ◌-◌, ◌<◌}
use native.Mathlib.Omega.{arith}
use native.Mathlib.Numerals.{add-one}
use mathlib.Core.Path.{◌≡◌, ap, sym, subst, ◌∙◌}
use mathlib.Core.Bool.{true}
use mathlib.Core.List.{List, [], ◌∷◌, ◌++◌, append_assoc, append-nil}
use lib.ListN.{length, take, set, length-set}
use lib.Seq.{take-suc-set}
use Rattle.table.specs.Limits.{max_chains}
use Rattle.table.specs.Record.{id_at, length_at, row_at}
use Rattle.table.specs.Read.{empty, plus}
use Rattle.table.specs.declared.Table.{Table}
use Rattle.salvaging.specs.Kept.{acceptable}
use Rattle.salvaging.specs.Code.Walk.{Walked}
use Rattle.salvaging.proofs.Walks.{Acceptable, acceptable-says, kept_from, from-full, found_none, found-one, found-kept, beside-more}
use Rattle.salvaging.proofs.walk.walk.Goals as goal
use Rattle.salvaging.proofs.walk.walk.Goals.{After-id_at, After-tasks_part-tasks, At-loop-count, Else-place-s, Start}

-- at the loop's head
abbrev bytes : (c : At-loop-count) → List ℕ
bytes c = c.args.s.now

abbrev sofar : (c : At-loop-count) → Table
sofar c = c.loop-count.invariant.0

-- the length is a number of the program
wide : (c : Start) → length c.args.s.now < 18446744073709551616
wide c = omega arith

abbrev place : (c : Else-place-s) → ℕ
place c = c.next_record-place.result

accepts : (c : Else-place-s) → acceptable (c.args.s.now) (place c) (c.loop-count.invariant.0) ≡ true
accepts c = found-one (c.args.s.now) c.loop-count.at (place c) (c.loop-count.invariant.0) c.loop-count.invariant.1.inside (c.next_record-place.ensures (c.loop-count.invariant.0) c.loop-count.invariant.1.beside) c.if-place-s.false

right : (c : Else-place-s) → Acceptable (c.args.s.now) (place c) (c.loop-count.invariant.0)
right c = acceptable-says (c.args.s.now) (place c) (c.loop-count.invariant.0) (accepts c)

-- the id that is remembered is that of the record there
bears : (c : After-id_at) → c.id_at.result ≡ id_at (c.args.s.now) (c.next_record-place.result)
bears c = c.id_at.ensures

-- there is room for a chain more
room : (c : Else-place-s) → c.loop-count.count < max_chains
room c = omega (arith, c.loop-count-test.true)

pub loop-count-init : goal.loop-count-init
loop-count-init c = let k = c.nothing-before.ensures in (
  empty,
  record {
    counts = k.count;
    few = omega arith;
    all_few = omega (arith, k.tasks);
    inside = omega arith;
    size = ap length k.bear;
    long = c.requires;
    beside = record { keeps = k; form_is = λ h. absurd (h k.count) };
    left = let e : length c.args.s.now - 0 ≡ length c.args.s.now = omega arith in rw e;
  },
)

pub next_record-place-requires : goal.next_record-place-requires
next_record-place-requires c = let i = c.loop-count.invariant.1 in (i.inside, omega (arith, i.few, i.counts), i.all_few)

pub returns-then-place-s : goal.returns-then-place-s
returns-then-place-s c = let i = c.loop-count.invariant.1 in
    let none = found_none (bytes (goal.at.returns-then-place-s c).At-loop-count) c.loop-count.at c.next_record-place.result (sofar (goal.at.returns-then-place-s c).At-loop-count) i.inside (c.next_record-place.ensures (sofar (goal.at.returns-then-place-s c).At-loop-count) i.beside) c.if-place-s.true in
    record { numbers = sym (append-nil _) ∙ ap (λ (x : List ℕ). take c.loop-count.count c.loop-count.places ++ x) (sym none) ∙ i.left; few = omega (arith, i.few, i.long); long = i.long }

pub offset_bounds-places-count : goal.offset_bounds-places-count
offset_bounds-places-count c = omega (arith, room c)

pub bounds-places-count : goal.bounds-places-count
bounds-places-count c = omega (arith, room c, c.loop-count.invariant.1.long)

pub id_at-requires : goal.id_at-requires
id_at-requires c = omega (arith, (right (goal.at.id_at-requires c).Else-place-s).chain.head.there)

pub form_at-form-requires : goal.form_at-form-requires
form_at-form-requires c = omega (arith, (right (goal.at.form_at-form-requires c).Else-place-s).chain.head.there)

pub tasks_part-tasks-requires : goal.tasks_part-tasks-requires
tasks_part-tasks-requires c = (right (goal.at.tasks_part-tasks-requires c).Else-place-s).chain.head.there

pub add-requires : goal.add-requires
add-requires c = let i = c.loop-count.invariant.1 in
    let h = room (goal.at.add-requires c).Else-place-s in
    (omega (arith, i.size, i.counts, h), omega (arith, i.counts, h), omega (arith, i.all_few), c.tasks_part-tasks.ensures.3)

pub overflow_mul-at : goal.overflow_mul-at
overflow_mul-at c = omega (arith, c.tasks_part-tasks.ensures.3)

pub overflow_add-at : goal.overflow_add-at
overflow_add-at c = omega (arith, c.tasks_part-tasks.ensures.2, c.tasks_part-tasks.ensures.3)

-- the walk goes on where the record ends
next : (c : After-tasks_part-tasks) → c.next_record-place.result + (c.tasks_part-tasks.result.from + 8 * c.tasks_part-tasks.result.count) ≡ c.next_record-place.result + length_at (c.args.s.now) (c.next_record-place.result)
next c = omega (arith, c.tasks_part-tasks.ensures.0, c.tasks_part-tasks.ensures.1)

pub overflow_add-at-in-loop-count : goal.overflow_add-at-in-loop-count
overflow_add-at-in-loop-count c = rw (next (goal.at.overflow_add-at-in-loop-count c).After-tasks_part-tasks) (omega (arith, (right (goal.at.overflow_add-at-in-loop-count c).Else-place-s).chain.there, wide (goal.at.overflow_add-at-in-loop-count c).Start))

pub loop-count-preserved : goal.loop-count-preserved
loop-count-preserved c = let i = c.loop-count.invariant.1 in
    let s = bytes (goal.at.loop-count-preserved c).At-loop-count in
    let t = sofar (goal.at.loop-count-preserved c).At-loop-count in
    let at = place (goal.at.loop-count-preserved c).Else-place-s in
    let n = c.loop-count.count in
    let kept = found-kept s c.loop-count.at at t i.inside (c.next_record-place.ensures t i.beside) c.if-place-s.false in
    let more : take (n + 1) (set c.loop-count.places n at) ≡ take n c.loop-count.places ++ (at ∷ []) = rw (add-one, take-suc-set c.loop-count.places n at (omega (arith, room (goal.at.loop-count-preserved c).Else-place-s, i.long))) in
    rw (c.add.ensures, bears (goal.at.loop-count-preserved c).After-id_at, c.form_at-form.ensures, next (goal.at.loop-count-preserved c).After-tasks_part-tasks, c.tasks_part-tasks.ensures.1) (
      plus t (row_at s at),
      record {
        counts = omega (arith, i.counts);
        few = omega (arith, room (goal.at.loop-count-preserved c).Else-place-s);
        all_few = omega (arith, (right (goal.at.loop-count-preserved c).Else-place-s).chain.head.all, i.beside.keeps.tasks);
        inside = (right (goal.at.loop-count-preserved c).Else-place-s).chain.there;
        size = length-set c.loop-count.before.ids c.loop-count.before.count _ ∙ i.size;
        long = length-set c.loop-count.places n at ∙ i.long;
        beside = beside-more s at i.beside i.size (accepts (goal.at.loop-count-preserved c).Else-place-s);
        left = ap (λ (x : List ℕ). x ++ kept_from s (at + length_at s at) (plus t (row_at s at))) more ∙ append_assoc (take n c.loop-count.places) (at ∷ []) _ ∙ ap (λ (x : List ℕ). take n c.loop-count.places ++ x) (sym kept) ∙ i.left;
      },
    )

pub returns : goal.returns
returns c = let i = c.loop-count.invariant.1 in
    let s = c.args.s.now in
    let end : c.loop-count.count ≡ max_chains = omega (arith, i.few, c.loop-count-test.false) in
    let full = from-full s c.loop-count.at (sofar (goal.at.returns c).At-loop-count) (omega (arith, end, i.counts, i.beside.keeps.count)) in
    subst (Walked s c.loop-count.places) end
    (record { numbers = sym (append-nil _) ∙ ap (λ (x : List ℕ). take c.loop-count.count c.loop-count.places ++ x) (sym full) ∙ i.left; few = omega (arith, i.few, i.long); long = i.long })
