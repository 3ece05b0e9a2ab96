-- The loop's invariant: an overload chain may start again exactly where one from `chain` on may; its record starts at `at`.
use Prim.Native.Nat.{◌+◌, ◌<◌}
use mathlib.Core.Path.{◌≡◌, refl, ap, sym, ◌∙◌}
use mathlib.Core.List.{[], ◌∷◌}
use native.Mathlib.Omega.{arith}
use mathlib.Core.Bool.{Bool}
use Rattle.table.specs.Record.{row_at}
use Rattle.table.specs.Find.{row_of}
use Rattle.table.specs.declared.Row.{Row}
use Rattle.table.specs.Read.{table_of}
use Rattle.table.proofs.Standing.{place_none}
use Rattle.table.proofs.Stands.{row-there, stands, place-next}
use Rattle.search.specs.Lists.{some}
use Rattle.misses.specs.Overloads.{overloads}
use Rattle.misses.proofs.Starts.{starts, again-here, again-later, again-past}
use Rattle.misses.proofs.asking.any_again.Goals as goal
use Rattle.misses.proofs.asking.any_again.Goals.{In-loop}

-- the chain is there
within : (c : In-loop) → c.loop.counter < (table_of c.args.s.now).count
within c = omega (arith, c.count-chains.ensures, c.loop-test.true)

-- what is asked of its record is asked of its row
asked : (c : In-loop) → {yes : Bool} → ((r : Row) → yes ≡ some (starts c.args.t) (overloads r (row_at c.args.s.now c.loop.at ∷ [])))
    → (r : Row) → yes ≡ some (starts c.args.t) (overloads r (row_of (table_of c.args.s.now) c.loop.counter ∷ []))
asked c told r = told r ∙ ap (λ a. some (starts c.args.t) (overloads r (a ∷ []))) (row-there c.requires.0 c.loop.invariant.1 (within c))

pub count-chains-requires : goal.count-chains-requires
count-chains-requires c = c.requires.0

pub loop-init : goal.loop-init
loop-init c = (omega arith, place_none (table_of c.args.s.now), λ b. refl)

pub again-requires : goal.again-requires
again-requires c = (stands c.requires.0 c.loop.invariant.1 (within c), c.requires.1)

pub returns-then-again : goal.returns-then-again
returns-then-again c b = let l = c.loop in
    let p = (goal.at.returns-then-again c).In-loop in
    sym (again-here b (table_of c.args.s.now) c.requires.0.good c.args.t l.counter (within p) (sym (asked p c.again.ensures b) ∙ c.if-again.true))
    ∙ l.invariant.2 b

pub record_length-at-requires : goal.record_length-at-requires
record_length-at-requires c = omega (arith, (stands c.requires.0 c.loop.invariant.1 (within (goal.at.record_length-at-requires c).In-loop)).there)

pub overflow_add-at : goal.overflow_add-at
overflow_add-at c = omega (arith, c.record_length-at.ensures, (stands c.requires.0 c.loop.invariant.1 (within (goal.at.overflow_add-at c).In-loop)).there)

pub loop-preserved : goal.loop-preserved
loop-preserved c = let l = c.loop in
    let p = (goal.at.loop-preserved c).In-loop in
    let h = within p in (
      omega (arith, h),
      ap (λ n. l.at + n) c.record_length-at.ensures ∙ place-next c.requires.0 l.invariant.1 h,
      λ b. sym (again-later b (table_of c.args.s.now) c.requires.0.good c.args.t l.counter h (sym (asked p c.again.ensures b) ∙ c.if-again.false))
          ∙ l.invariant.2 b,
    )

pub returns : goal.returns
returns c b = let l = c.loop in
    sym (again-past b (table_of c.args.s.now) c.requires.0.good c.args.t l.counter (omega (arith, c.count-chains.ensures, c.loop-test.false)))
    ∙ l.invariant.2 b
