-- The loop's invariant (`Gone`): the active segments of the overload chains before the chain j are held; its record starts at `at`.
use Prim.Native.Nat.{ℕ, ◌+◌, ◌<◌}
use mathlib.Core.Path.{◌≡◌, ap, sym, ◌∙◌}
use mathlib.Core.List.{[], ◌∷◌, ◌++◌}
use native.Mathlib.Omega.{arith}
use Rattle.table.specs.Find.{row_of}
use Rattle.table.specs.Place.{place_of}
use Rattle.table.specs.Record.{length_at, overload_at, row_at}
use Rattle.table.specs.declared.Row.{Row}
use Rattle.table.specs.declared.Table.{Table}
use Rattle.table.specs.Code.Taken.{Stands}
use Rattle.table.specs.Read.{table_of}
use Rattle.table.proofs.Standing.{place_none}
use Rattle.table.proofs.Stands.{row-there, stands, place-next}
use Rattle.segments.proofs.Levels.{floor_tail}
use Rattle.misses.specs.Overloads.{overload}
use Rattle.misses.specs.Code.Held.{gathered}
use Rattle.misses.proofs.Gathers.{gone-none, gone-typical, gone-overload, gone-all}
use Rattle.misses.proofs.Pieces.of.Goals as goal
use Rattle.misses.proofs.Pieces.of.Goals.{In-loop, Start, then-overload_at-ne0, else-overload_at-ne0}

-- the table, and the chain b
abbrev table : (c : Start) → Table
table c = table_of c.args.s.now

abbrev b : (c : Start) → Row
b c = row_at c.args.s.now c.args.b

-- the chain j is there, its record stands, and so does the next one's after it
within : (c : In-loop) → c.loop.counter < (table_of c.args.s.now).count
within c = omega (arith, c.count-chains.ensures, c.loop-test.true)

here : (c : In-loop) → Stands c.args.s.now c.loop.at
here c = stands c.requires.0 c.loop.invariant.0 (within c)

next : (c : In-loop) → {n : ℕ} → n ≡ length_at c.args.s.now c.loop.at → c.loop.at + n ≡ place_of (table_of c.args.s.now) (c.loop.counter + 1)
next c e = ap (λ n. c.loop.at + n) e ∙ place-next c.requires.0 c.loop.invariant.0 (within c)

-- its row, and its overload mark
row : (c : In-loop) → row_at c.args.s.now c.loop.at ≡ row_of (table_of c.args.s.now) c.loop.counter
row c = row-there c.requires.0 c.loop.invariant.0 (within c)

mark : (c : In-loop) → {n : ℕ} → n ≡ overload_at c.args.s.now c.loop.at → n ≡ (row_of (table_of c.args.s.now) c.loop.counter).overload
unfolding row_at
mark c e = e ∙ ap (λ (r : Row). r.overload) (row c)

pub floor_of-floor-requires : goal.floor_of-floor-requires
floor_of-floor-requires c = c.requires.1

pub tail_of-tail-requires : goal.tail_of-tail-requires
tail_of-tail-requires c = c.requires.1

pub count-chains-requires : goal.count-chains-requires
count-chains-requires c = c.requires.0

pub loop-init : goal.loop-init
loop-init c = (place_none (table (goal.at.loop-init c).Start), gone-none _ _ _ _ c.none-p.ensures)

pub record_length-at-requires : goal.record_length-at-requires
record_length-at-requires c = omega (arith, (here c).there)

pub overflow_add-at : goal.overflow_add-at
overflow_add-at c = omega (arith, c.record_length-at.ensures, (here (goal.at.overflow_add-at c).In-loop).there)

pub overload_at-requires : goal.overload_at-requires
overload_at-requires c = omega (arith, (here (goal.at.overload_at-requires c).In-loop).there)

pub beside-p-requires : goal.beside-p-requires
beside-p-requires c = let gone = c.loop.invariant.1 in
    let h = within (goal.at.beside-p-requires c).In-loop in (
      here (goal.at.beside-p-requires c).In-loop,
      omega (arith, c.floor_of-floor.ensures, c.tail_of-tail.ensures, floor_tail (b (goal.at.beside-p-requires c).Start)),
      c.requires.2,
      omega (arith, gone.chains, h, c.requires.0.good.few),
      omega (arith, gone.few, h, c.requires.0.good.few),
    )

pub loop-preserved : goal.loop-preserved
loop-preserved c = let l = c.loop in
    let table = table (goal.at.loop-preserved c).Start in
    let b = b (goal.at.loop-preserved c).Start in
    let good = c.requires.0.good in
    let there = within (goal.at.loop-preserved c).In-loop in
    let mark = mark (goal.at.loop-preserved c).In-loop c.overload_at.ensures in (
      next (goal.at.loop-preserved c).In-loop c.record_length-at.ensures,
      elim c.if-overload_at-ne0.branch [
        | then-overload_at-ne0 w ↦ rw w.p-is
            (gone-overload table b c.args.t good l.p l.counter l.invariant.1 there (λ e. w.if-overload_at-ne0.true (mark ∙ e)) w.beside-p.result
            (λ os e. w.beside-p.ensures b os (sym c.floor_of-floor.ensures) (sym c.tail_of-tail.ensures) e
            ∙ ap (λ r. gathered c.args.t (os ++ (overload r b ∷ []))) (row (goal.at.loop-preserved c).In-loop)))
        | else-overload_at-ne0 w ↦ rw w.p-is (gone-typical table b c.args.t good l.p l.counter l.invariant.1 there (sym mark ∙ w.if-overload_at-ne0.false))
      ],
    )

pub returns : goal.returns
returns c = gone-all (table (goal.at.returns c).Start) (b (goal.at.returns c).Start) c.args.t _ _ c.loop.invariant.1 (omega (arith, c.count-chains.ensures, c.loop-test.false))
