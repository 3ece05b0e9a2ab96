-- `join` meets its contract. The loop's invariant: the chains before the one counted stand beside it, and its record starts at `at`.
use Prim.Native.Nat.{ℕ, ◌≤◌, ◌<◌, ◌-◌, ◌+◌, ◌*◌}
use mathlib.Core.Path.{◌≡◌, ap, sym, subst, ◌∙◌}
use mathlib.Core.List.{List, [], ◌∷◌, ◌++◌}
use mathlib.Core.Bool.{true, false}
use native.Mathlib.Omega.{arith}
use lib.ListN.{length}
use Rattle.table.specs.Limits.{max_chains}
use Rattle.table.specs.Record.{length_at, overload_at, row_at}
use Rattle.table.specs.declared.Row.{Row}
use Rattle.table.specs.declared.Table.{Table}
use Rattle.table.specs.Find.{row_of}
use Rattle.table.specs.Place.{place_of}
use Rattle.table.specs.Code.Taken.{Stands}
use Rattle.table.specs.Read.{table_of}
use Rattle.table.proofs.Stands.{distances-from, lists, row-there, stands, place-next}
use Rattle.segments.specs.Tasks.{floor_of}
use Rattle.segments.specs.View.{View, view_of}
use Rattle.segments.proofs.Views.{view_list}
use Rattle.windows.specs.Code.Load.{once_limit, adds_to, views_between, Load, load_of, Joined, Adds}
use Rattle.segments.specs.Code.Held.{dearest}
use Rattle.windows.specs.declared.Term.{Term}
use Rattle.windows.proofs.Besides.{views-none, views-length, views-yes, views_no}
use Rattle.windows.proofs.Joining.{once-joined, held-joined, joined-none, joined-on}
use Rattle.windows.proofs.loading.join.Goals as goal
use Rattle.windows.proofs.loading.join.Goals.{At-loop, then-adds+then-x-ne0, then-adds+else-x-ne0, else-adds}

abbrev s : (c : At-loop) → List ℕ
s c = c.args.s.now

abbrev t : (c : At-loop) → Table
t c = table_of (s c)

abbrev b : (c : At-loop) → Row
b c = row_at (s c) c.args.own.at

abbrev now : (c : At-loop) → Load
now c = load_of (s c) c.loop.l c.loop.held

-- the view of the chain j, and the views so far
abbrev view : (c : At-loop) → View
view c = view_of (row_at (s c) c.loop.at) (b c)

abbrev views : (c : At-loop) → ℕ → List View
views c j = views_between c.args.others (t c) (b c) c.args.span.from j

-- the chain j is there, and there is room for it
within : (c : At-loop) → (more : c.loop.counter < c.args.span.to) → c.loop.counter < (t c).count
within c more = omega (arith, more, c.requires.inside)

here : (c : At-loop) → (more : c.loop.counter < c.args.span.to) → Stands (s c) c.loop.at
here c more = stands c.requires.taken c.loop.invariant.2 ((within c) more)

row_is : (c : At-loop) → (more : c.loop.counter < c.args.span.to) → row_at (s c) c.loop.at ≡ row_of (t c) c.loop.counter
row_is c more = row-there c.requires.taken c.loop.invariant.2 ((within c) more)

next : (c : At-loop) → (more : c.loop.counter < c.args.span.to) → (n : ℕ) → n ≡ length_at (s c) c.loop.at → c.loop.at + n ≡ place_of (t c) (c.loop.counter + 1)
next c more n e = ap (λ m. c.loop.at + m) e ∙ place-next c.requires.taken c.loop.invariant.2 ((within c) more)

so_far : (c : At-loop) → (more : c.loop.counter < c.args.span.to) → length ((views c) c.loop.counter) ≤ c.loop.counter - c.args.span.from
so_far c more = views-length c.args.others (t c) (b c) c.requires.taken.good c.args.span.from c.loop.counter (omega (arith, ((within c) more)))

few : (c : At-loop) → (more : c.loop.counter < c.args.span.to) → c.loop.l.count < max_chains
few c more = omega (arith, ((so_far c) more), more, c.loop.invariant.0, c.loop.invariant.3.count, c.requires.few)

room : (c : At-loop) → (more : c.loop.counter < c.args.span.to) → c.loop.l.once + dearest ≤ once_limit
room c more = omega (arith, ((so_far c) more), more, c.loop.invariant.0, c.loop.invariant.3.once, c.requires.room)

marked : (c : At-loop) → (more : c.loop.counter < c.args.span.to) → overload_at (s c) c.loop.at ≡ (row_of (t c) c.loop.counter).overload
unfolding row_at
marked c more = ap (λ (r : Row). r.overload) ((row_is c) more)

-- it counts
with_it : (c : At-loop) → (more : c.loop.counter < c.args.span.to) → adds_to c.args.others (overload_at (s c) c.loop.at) ≡ true → (views c) (c.loop.counter + 1) ≡ (views c) c.loop.counter ++ ((view c) ∷ [])
with_it c more e = views-yes c.args.others (t c) (b c) c.requires.taken.good c.args.span.from c.loop.counter c.loop.invariant.0 ((within c) more)
    (ap (adds_to c.args.others) (sym ((marked c) more)) ∙ e)
    ∙ ap (λ r. (views c) c.loop.counter ++ (view_of r (b c) ∷ [])) (sym ((row_is c) more))

-- what it adds, and that it is added
adds : (c : At-loop) → {x : Term} → ((r : Row) → floor_of r ≡ c.args.floor → Adds (view_of (row_at (s c) c.loop.at) r) x) → Adds (view c) x
adds c told = told (b c) (sym c.requires.floor_is)

grown : (c : At-loop) → (more : c.loop.counter < c.args.span.to) → adds_to c.args.others (overload_at (s c) c.loop.at) ≡ true → {r : Load} → Joined (now c) (view c ∷ []) r
    → Joined (load_of (s c) c.args.own c.args.held.now) (views c (c.loop.counter + 1)) r
grown c more e one = rw (with_it c more e) (joined-on c.loop.invariant.3 one)

-- it does not count
passed : (c : At-loop) → (more : c.loop.counter < c.args.span.to) → adds_to c.args.others (overload_at (s c) c.loop.at) ≡ false → views c (c.loop.counter + 1) ≡ views c c.loop.counter
passed c more e = views_no c.args.others (t c) (b c) c.requires.taken.good c.args.span.from c.loop.counter c.loop.invariant.0 (within c more)
    (ap (adds_to c.args.others) (sym (marked c more)) ∙ e)

size : (c : At-loop) → length c.loop.held ≡ 2 * max_chains
size c = c.loop.invariant.3.sound.held.size

pub loop-init : goal.loop-init
loop-init c = let a = c.args in
    let l = load_of a.s.now a.own a.held.now in (
      omega arith,
      c.requires.order,
      c.requires.start,
      subst (λ vs. Joined l vs l) (sym (views-none a.others (table_of a.s.now) (row_at a.s.now a.own.at) a.span.from)) (joined-none l c.requires.sound),
    )

pub record_length-at-requires : goal.record_length-at-requires
record_length-at-requires c = omega (arith, (here (goal.at.record_length-at-requires c).At-loop c.loop-test.true).there)

pub overflow_add-at : goal.overflow_add-at
overflow_add-at c = omega (arith, c.record_length-at.ensures, (here (goal.at.overflow_add-at c).At-loop c.loop-test.true).there)

pub overload_at-requires : goal.overload_at-requires
overload_at-requires c = omega (arith, (here (goal.at.overload_at-requires c).At-loop c.loop-test.true).there)

pub term-x-requires : goal.term-x-requires
term-x-requires c = here (goal.at.term-x-requires c).At-loop c.loop-test.true

pub overflow_add-l : goal.overflow_add-l
overflow_add-l c = let p = (goal.at.overflow_add-l c).At-loop in omega (arith, room p c.loop-test.true, (adds p c.term-x.ensures).once)

pub offset_bounds-held-i : goal.offset_bounds-held-i
offset_bounds-held-i c = omega (arith, few (goal.at.offset_bounds-held-i c).At-loop c.loop-test.true)

pub bounds-held-i : goal.bounds-held-i
bounds-held-i c = let p = (goal.at.bounds-held-i c).At-loop in omega (arith, few p c.loop-test.true, size p)

pub list_place-requires : goal.list_place-requires
list_place-requires c = omega (arith, (here (goal.at.list_place-requires c).At-loop c.loop-test.true).there)

pub overflow_add-held : goal.overflow_add-held
overflow_add-held c = omega (arith, few (goal.at.overflow_add-held c).At-loop c.loop-test.true)

pub offset_bounds-held-i-then-x-ne0 : goal.offset_bounds-held-i-then-x-ne0
offset_bounds-held-i-then-x-ne0 c = omega (arith, few (goal.at.offset_bounds-held-i-then-x-ne0 c).At-loop c.loop-test.true)

pub bounds-held-i-then-x-ne0 : goal.bounds-held-i-then-x-ne0
bounds-held-i-then-x-ne0 c = let p = (goal.at.bounds-held-i-then-x-ne0 c).At-loop in omega (arith, few p c.loop-test.true, size p)

pub overflow_add-l-then-x-ne0 : goal.overflow_add-l-then-x-ne0
overflow_add-l-then-x-ne0 c = omega (arith, few (goal.at.overflow_add-l-then-x-ne0 c).At-loop c.loop-test.true)

pub loop-preserved : goal.loop-preserved
loop-preserved c = let l = c.loop in
    let p = (goal.at.loop-preserved c).At-loop in
    let more = c.loop-test.true in
    let marks = sym (c.adds.ensures ∙ ap (adds_to c.args.others) c.overload_at.ensures) in (
      omega (arith, l.invariant.0),
      omega (arith, more),
      next p more _ c.record_length-at.ensures,
      elim c.if-adds.branch [
        | then-adds+then-x-ne0 w ↦ rw (w.l-is, w.held-is)
            (grown p more (marks ∙ w.if-adds.true)
            (held-joined (now p) (view p) w.term-x.result w.list_place.result l.invariant.3.sound (few p more) (room p more) (adds p w.term-x.ensures)
            (view_list (row_at (s p) l.at) (b p) ∙ distances-from (s p) l.at w.list_place.ensures) (lists (s p) l.at w.list_place.ensures (here p more))))
        | then-adds+else-x-ne0 w ↦ rw (w.l-is, w.held-is)
            (grown p more (marks ∙ w.if-adds.true) (once-joined (now p) (view p) w.term-x.result l.invariant.3.sound (adds p w.term-x.ensures) w.if-x-ne0.false (room p more)))
        | else-adds w ↦ rw (w.l-is, w.held-is, passed p more (marks ∙ w.if-adds.false)) l.invariant.3
      ],
    )

pub returns : goal.returns
returns c = let a = c.args in
    let e : c.loop.counter ≡ a.span.to = omega (arith, c.loop.invariant.1, c.loop-test.false) in
    subst (λ j. Joined (load_of (s (goal.at.returns c).At-loop) a.own a.held.now) (views (goal.at.returns c).At-loop j) (now (goal.at.returns c).At-loop)) e c.loop.invariant.3
