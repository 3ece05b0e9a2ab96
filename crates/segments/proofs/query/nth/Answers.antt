-- The active segment comes out of the arrays, and lies inside its chain, whose record stands in the table.
use Prim.Native.Nat.{◌+◌, ◌*◌, ◌≤◌}
use native.Mathlib.Omega.{arith}
use mathlib.Core.Path.{◌≡◌, ap₂, ◌∙◌}
use mathlib.Core.Logic.{inl, inr, ⊎_elim}
use borrow.Author.Tests.{lt-ltb, le-ltb}
use Rattle.table.specs.Limits.{max_chains, max_tasks}
use Rattle.table.specs.Record.{row_at}
use Rattle.table.specs.Find.{row_of}
use Rattle.table.specs.Place.{tasks_start, place_of}
use Rattle.table.specs.Read.{table_of}
use Rattle.table.specs.declared.Table.{Table}
use Rattle.table.proofs.Stands.{row-there, first-there, stands}
use Rattle.segments.specs.Actives.{actives_of}
use Rattle.segments.specs.Query.{actives_in}
use Rattle.segments.specs.Code.Held.{arrays_of}
use Rattle.segments.proofs.Levels.{floor_tail}
use Rattle.table.proofs.Standing.{longest_record, place-max}
use Rattle.table.proofs.Widths.{width-most, known-most}
use Rattle.segments.proofs.Asking.{Fetched, found-is, fetched, nth-none, nth-records}
use Rattle.segments.proofs.query.nth.Goals as goal
use Rattle.segments.proofs.query.nth.Goals.{After-active_segments-found, After-first_task-first, Start}

abbrev table : (c : Start) → Table
table c = table_of c.args.s.now

held : (c : After-active_segments-found) → c.active_segments-found.result ≡ arrays_of (actives_in ((table_of c.args.s.now)) c.args.chain c.args.other)
held c = found-is (row_at c.args.s.now c.place-at.result) (row_at c.args.s.now c.place-b.result)
    c.floor_of.result c.tail_of.result c.active_segments-found.result
    c.floor_of.ensures c.tail_of.ensures c.active_segments-found.ensures
    ∙ ap₂ (λ p q. arrays_of (actives_of p q)) (row-there c.requires.0 c.place-at.ensures c.requires.1) (row-there c.requires.0 c.place-b.ensures c.requires.2)

got : (c : After-active_segments-found) → (c.args.number ≡ 0 → ⊥) → c.args.number ≤ c.active_segments-found.result.count
    → Fetched (row_of (table_of c.args.s.now) c.args.chain) (row_of (table_of c.args.s.now) c.args.other) c.active_segments-found.result c.args.number
got c = fetched _ _ _ c.args.number (held c)

first-is : (c : After-first_task-first) → c.first_task-first.result ≡ place_of ((table_of c.args.s.now)) c.args.chain + tasks_start (row_of ((table_of c.args.s.now)) c.args.chain)
first-is c = c.first_task-first.ensures ∙ first-there c.requires.0 c.place-at.ensures c.requires.1

near : (c : After-first_task-first) → c.first_task-first.result ≤ longest_record * max_chains
near c = let g = c.requires.0.good in
    let r = g.row c.args.chain c.requires.1 in
    let row = row_of ((table_of c.args.s.now)) c.args.chain in
    omega (arith, (first-is c), place-max ((table_of c.args.s.now)) g c.args.chain (omega (arith, c.requires.1)), g.few, c.requires.1, r.list.few, r.listed, width-most row.form, known-most row.form row.flag row.listed)

few : (c : After-first_task-first) → (row_of ((table_of c.args.s.now)) c.args.chain).tasks ≤ max_tasks
few c = (c.requires.0.good.row c.args.chain c.requires.1).tasks.few

pub floor_of-requires : goal.floor_of-requires
floor_of-requires c = stands c.requires.0 c.place-b.ensures c.requires.2

pub tail_of-requires : goal.tail_of-requires
tail_of-requires c = stands c.requires.0 c.place-b.ensures c.requires.2

pub active_segments-found-requires : goal.active_segments-found-requires
active_segments-found-requires c = let b = row_at c.args.s.now c.place-b.result in
    (stands c.requires.0 c.place-at.ensures c.requires.1, omega (arith, c.floor_of.ensures, c.tail_of.ensures, floor_tail b))

pub returns-then-n-eq0 : goal.returns-then-n-eq0
returns-then-n-eq0 c =
    let b = (goal.at.returns-then-n-eq0 c).After-active_segments-found in
    nth-none _ _ _ c.args.number _ (held b) (⊎_elim (λ e. inl e) (λ w. inr (lt-ltb _ _ w.1)) c.then-n-eq0.either)

pub first_task-first-requires : goal.first_task-first-requires
first_task-first-requires c = omega (arith, (stands c.requires.0 c.place-at.ensures c.requires.1).there)

pub bounds-found-n : goal.bounds-found-n
bounds-found-n c = omega (arith, few c, (got (goal.at.bounds-found-n c).After-active_segments-found c.if-n-eq0.false c.if-found-n.false).few, c.if-n-eq0.false)

pub overflow_mul-offset : goal.overflow_mul-offset
overflow_mul-offset c =
    let b = (goal.at.overflow_mul-offset c).After-first_task-first in
    let a = (goal.at.overflow_mul-offset c).After-active_segments-found in
    omega (arith, few b, (got a c.if-n-eq0.false c.if-found-n.false).start, (got a c.if-n-eq0.false c.if-found-n.false).inside)

pub overflow_add-offset : goal.overflow_add-offset
overflow_add-offset c =
    let b = (goal.at.overflow_add-offset c).After-first_task-first in
    let a = (goal.at.overflow_add-offset c).After-active_segments-found in
    omega (arith, near b, few b, (got a c.if-n-eq0.false c.if-found-n.false).start, (got a c.if-n-eq0.false c.if-found-n.false).inside)

pub bounds-found-n-2 : goal.bounds-found-n-2
bounds-found-n-2 c =
    let b = (goal.at.bounds-found-n-2 c).After-first_task-first in
    let a = (goal.at.bounds-found-n-2 c).After-active_segments-found in
    omega (arith, few b, (got a c.if-n-eq0.false c.if-found-n.false).few, c.if-n-eq0.false)

pub overflow_mul-length : goal.overflow_mul-length
overflow_mul-length c =
    let b = (goal.at.overflow_mul-length c).After-first_task-first in
    let a = (goal.at.overflow_mul-length c).After-active_segments-found in
    omega (arith, few b, (got a c.if-n-eq0.false c.if-found-n.false).len, (got a c.if-n-eq0.false c.if-found-n.false).inside)

pub overflow_cast-result : goal.overflow_cast-result
overflow_cast-result c =
    let b = (goal.at.overflow_cast-result c).After-first_task-first in
    let a = (goal.at.overflow_cast-result c).After-active_segments-found in
    omega (arith, near b, few b, (got a c.if-n-eq0.false c.if-found-n.false).start, (got a c.if-n-eq0.false c.if-found-n.false).inside)

pub overflow_cast-result-2 : goal.overflow_cast-result-2
overflow_cast-result-2 c =
    let b = (goal.at.overflow_cast-result-2 c).After-first_task-first in
    let a = (goal.at.overflow_cast-result-2 c).After-active_segments-found in
    omega (arith, few b, (got a c.if-n-eq0.false c.if-found-n.false).len, (got a c.if-n-eq0.false c.if-found-n.false).inside)

pub returns : goal.returns
returns c =
    let b = (goal.at.returns c).After-active_segments-found in
    let a = (goal.at.returns c).After-first_task-first in
    nth-records _ _ _ c.args.number _ (held b) c.first_task-first.result (first-is a) c.if-n-eq0.false (le-ltb _ _ c.if-found-n.false)
