-- The loop's invariant (`Passed`): a record starts at `at`, and, from the first on, no chain before it bears the id.
use Prim.Native.Nat.{◌<◌}
use mathlib.Core.Path.{◌≡◌, ap, sym, ◌∙◌}
use native.Mathlib.Omega.{arith}
use Rattle.table.specs.Record.{row_at}
use Rattle.table.specs.Find.{row_of}
use Rattle.table.specs.Read.{table_of}
use Rattle.table.specs.Code.Taken.{Stands}
use Rattle.table.specs.declared.Row.{Row}
use Rattle.table.proofs.Stands.{row-there}
use Rattle.merging.proofs.Seeks.{chain-there, end-there, record_stands, passed_start, passed_on}
use Rattle.merging.proofs.states.seek.Goals as goal
use Rattle.merging.proofs.states.seek.Goals.{After-from, In-loop-at}

-- the chain is there, and its record stands at `at`
within : (c : In-loop-at) → c.loop-at.invariant.there.chain < (table_of c.args.s.now).count
within c = chain-there c.requires.0 c.loop-at.invariant.there (omega (arith, c.end_place-end.ensures, c.loop-at-test.true))

there : (c : In-loop-at) → Stands c.args.s.now c.loop-at.at
there c = record_stands c.requires.0 c.loop-at.invariant.there (within c)

-- its id, as the record has it
bears : (c : After-from) → c.from.result ≡ (row_of (table_of c.args.s.now) c.loop-at.invariant.there.chain).id
unfolding row_at
bears c = c.from.ensures ∙ c.id_at.ensures
    ∙ ap (λ (r : Row). r.id) (row-there c.requires.0 c.loop-at.invariant.there.place (chain-there c.requires.0 c.loop-at.invariant.there (omega (arith, c.end_place-end.ensures, c.loop-at-test.true))))

pub end_place-end-requires : goal.end_place-end-requires
end_place-end-requires c = c.requires.0

pub loop-at-init : goal.loop-at-init
loop-at-init c = passed_start c.requires.0 c.args.id c.args.from c.requires.1

pub id_at-requires : goal.id_at-requires
id_at-requires c = omega (arith, (there c).there)

pub returns-then-from-id : goal.returns-then-from-id
returns-then-from-id c = record { passed = c.loop-at.invariant; bears = λ h. sym (bears (goal.at.returns-then-from-id c).After-from) ∙ c.if-from-id.true }

pub record_length-at-requires : goal.record_length-at-requires
record_length-at-requires c = omega (arith, (there (goal.at.record_length-at-requires c).In-loop-at).there)

pub overflow_add-at : goal.overflow_add-at
overflow_add-at c = omega (arith, c.record_length-at.ensures, (there (goal.at.overflow_add-at c).In-loop-at).there)

pub loop-at-smaller : goal.loop-at-smaller
loop-at-smaller c = omega (arith, c.record_length-at.ensures, (there (goal.at.loop-at-smaller c).In-loop-at).there)

pub loop-at-preserved : goal.loop-at-preserved
loop-at-preserved c = let l = c.loop-at in
    rw c.record_length-at.ensures
    (passed_on c.requires.0 c.args.id c.args.from l.invariant (within (goal.at.loop-at-preserved c).In-loop-at) (λ e. c.if-from-id.false (bears (goal.at.loop-at-preserved c).After-from ∙ e)))

pub returns : goal.returns
returns c = let l = c.loop-at in
    let last = end-there c.requires.0 l.invariant.there (omega (arith, c.end_place-end.ensures, c.loop-at-test.false)) in
    record { passed = l.invariant; bears = λ h. absurd (omega (arith, h, last)) }
