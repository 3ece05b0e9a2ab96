-- The loop's invariant: i of the active segments found are held after what was held before.
use Prim.Native.Nat.{◌≤◌}
use mathlib.Core.Path.{refl, ap, ap₂, sym, ◌∙◌}
use native.Mathlib.Omega.{arith}
use Rattle.table.specs.Limits.{max_tasks}
use Rattle.table.specs.Record.{row_at}
use Rattle.table.specs.declared.Row.{Row}
use Rattle.segments.specs.Tasks.{tasks_of}
use Rattle.segments.specs.Actives.{actives}
use Rattle.segments.specs.Code.Held.{arrays_of}
use Rattle.segments.proofs.Bounds.{actives-few}
use Rattle.misses.proofs.Gathers.{adds_none, adds_on, adds-past, adds-chain}
use Rattle.misses.proofs.Pieces.beside.Goals as goal
use Rattle.misses.proofs.Pieces.beside.Goals.{After-capacity-most, Start, then-to-lt-OVERLOADS, else-to-lt-OVERLOADS}

-- the chain
abbrev chain : (c : Start) → Row
chain c = row_at c.args.s.now c.args.a

-- no more are found than it has tasks
few : (c : After-capacity-most) → c.active_segments-found.result.count ≤ max_tasks
few c = omega (arith, ap (λ o. o.count) c.active_segments-found.ensures, actives-few ((row_at c.args.s.now c.args.a)) c.args.floor c.args.tail c.requires.0.good)

pub active_segments-found-requires : goal.active_segments-found-requires
active_segments-found-requires c = let p = c.requires in (p.0, p.1)

pub capacity-most-requires : goal.capacity-most-requires
capacity-most-requires c = let p = c.requires in (p.0, p.2)

pub loop-i-init : goal.loop-i-init
loop-i-init c = (omega arith, refl, omega arith, adds_none _ _ _)

pub overflow_add-p : goal.overflow_add-p
overflow_add-p c = omega (arith, few (goal.at.overflow_add-p c).After-capacity-most, c.requires.4)

pub offset_bounds-found-i : goal.offset_bounds-found-i
offset_bounds-found-i c = omega (arith, few (goal.at.offset_bounds-found-i c).After-capacity-most)

pub bounds-found-i : goal.bounds-found-i
bounds-found-i c = omega (arith, few (goal.at.bounds-found-i c).After-capacity-most)

pub offset_bounds-found-i-then-to-lt-OVERLOADS : goal.offset_bounds-found-i-then-to-lt-OVERLOADS
offset_bounds-found-i-then-to-lt-OVERLOADS c = omega (arith, few (goal.at.offset_bounds-found-i-then-to-lt-OVERLOADS c).After-capacity-most)

pub bounds-found-i-then-to-lt-OVERLOADS : goal.bounds-found-i-then-to-lt-OVERLOADS
bounds-found-i-then-to-lt-OVERLOADS c = omega (arith, few (goal.at.bounds-found-i-then-to-lt-OVERLOADS c).After-capacity-most)

pub loop-i-preserved : goal.loop-i-preserved
loop-i-preserved c = let l = c.loop-i in
    elim c.if-to-lt-OVERLOADS.branch [
      | then-to-lt-OVERLOADS w ↦ rw (w.p-is, w.from.ensures) (omega arith, l.invariant.1, omega arith, adds_on _ _ _ l.p l.i l.invariant.3 c.loop-i-test.true)
      | else-to-lt-OVERLOADS w ↦ rw w.p-is (omega arith, l.invariant.1, omega arith, adds-past _ _ _ l.p l.i l.invariant.3 c.loop-i-test.true w.if-to-lt-OVERLOADS.false)
    ]

pub overflow_add-p-2 : goal.overflow_add-p-2
overflow_add-p-2 c = omega (arith, c.loop-i.invariant.1, c.requires.3)

pub returns : goal.returns
returns c b os f u e = let l = c.loop-i in
    adds-chain (chain (goal.at.returns c).Start) b c.args.t os _ _ _ l.p l.i e
    (c.active_segments-found.ensures ∙ ap₂ (λ x y. arrays_of (actives x y (tasks_of (chain (goal.at.returns c).Start)))) (sym f) (sym u)) c.capacity-most.ensures l.invariant.3 (omega arith)
