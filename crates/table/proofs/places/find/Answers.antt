-- None of the chains before `chain` bears the id; its record starts at `at`.
use Prim.Native.Nat.{◌+◌, ◌<◌}
use mathlib.Core.Path.{◌≡◌, ap, sym, ◌∙◌}
use lib.Dec.{eqb}
use borrow.Author.Count.{below_more}
use borrow.Author.Tests.{eq-eqb, ne_eqb, eqb-true}
use Rattle.std.specs.Prelude.{Some}
use Rattle.search.proofs.Choice.{when_yes, when_no}
use Rattle.search.proofs.Find.{first-is, first-none}
use Rattle.table.specs.declared.Row.{Row}
use Rattle.table.specs.Record.{row_at}
use Rattle.table.specs.Find.{row_of, find_of}
use Rattle.table.specs.Read.{table_of}
use Rattle.table.proofs.Standing.{place_none}
use Rattle.table.proofs.Stands.{row-there, stands, place-next}
use native.Mathlib.Omega.{arith}
use Rattle.table.proofs.places.find.Goals as goal
use Rattle.table.proofs.places.find.Goals.{After-from, Then-from-id, In-loop-chain, After-loop-chain}

-- `chain` is there
within : (c : In-loop-chain) → c.loop-chain.chain < (table_of c.args.s.now).count
within c = omega (arith, c.count-chain-end.ensures, c.loop-chain-test.true)

-- its id, as the record has it
bears : (c : After-from) → c.from.result ≡ (row_of (table_of c.args.s.now) c.loop-chain.chain).id
unfolding row_at
bears c = c.from.ensures ∙ c.id_at.ensures ∙ ap (λ (r : Row). r.id) (row-there c.requires c.loop-chain.invariant.1 (omega (arith, c.count-chain-end.ensures, c.loop-chain-test.true)))

pub count-chain-end-requires : goal.count-chain-end-requires
count-chain-end-requires c = c.requires

pub loop-chain-init : goal.loop-chain-init
loop-chain-init c = (omega arith, place_none (table_of c.args.s.now), λ j h e. absurd (omega (arith, h)))

pub id_at-requires : goal.id_at-requires
id_at-requires c = omega (arith, (stands c.requires c.loop-chain.invariant.1 (within c)).there)

-- it is the first that does
found : (c : Then-from-id) → c.from.result ≡ (row_of (table_of c.args.s.now) c.loop-chain.chain).id → find_of (table_of c.args.s.now) c.args.id ≡ c.loop-chain.chain
unfolding find_of
found c e = let t = table_of c.args.s.now in
    let l = c.loop-chain in
    first-is (λ j. eqb (row_of t j).id c.args.id) 0 t.count l.chain (omega arith) (omega (arith, c.count-chain-end.ensures, c.loop-chain-test.true))
    (eq-eqb _ _ (sym e ∙ c.if-from-id.true)) (λ j a h e. l.invariant.2 j h e)

pub returns-then-from-id : goal.returns-then-from-id
returns-then-from-id c = let h = within (goal.at.returns-then-from-id c).In-loop-chain in
    let e = found (goal.at.returns-then-from-id c).Then-from-id (bears (goal.at.returns-then-from-id c).After-from) in
    sym (when_no _ _ (ne_eqb _ _ (omega (arith, e, h))) ∙ ap Some e)

pub record_length-at-requires : goal.record_length-at-requires
record_length-at-requires c = omega (arith, (stands c.requires c.loop-chain.invariant.1 (within (goal.at.record_length-at-requires c).In-loop-chain)).there)

pub overflow_add-at : goal.overflow_add-at
overflow_add-at c = omega (arith, c.record_length-at.ensures, (stands c.requires c.loop-chain.invariant.1 (within (goal.at.overflow_add-at c).In-loop-chain)).there)

pub loop-chain-preserved : goal.loop-chain-preserved
loop-chain-preserved c = (
  omega (arith, within (goal.at.loop-chain-preserved c).In-loop-chain),
  ap (λ n. c.loop-chain.at + n) c.record_length-at.ensures ∙ place-next c.requires c.loop-chain.invariant.1 (within (goal.at.loop-chain-preserved c).In-loop-chain),
  below_more _ _ c.loop-chain.invariant.2 (λ e. c.if-from-id.false (bears (goal.at.loop-chain-preserved c).After-from ∙ eqb-true _ _ e)),
)

-- none does
missing : (c : After-loop-chain) → find_of (table_of c.args.s.now) c.args.id ≡ (table_of c.args.s.now).count
unfolding find_of
missing c = let t = table_of c.args.s.now in
    let e : c.loop-chain.chain ≡ t.count = omega (arith, c.count-chain-end.ensures, c.loop-chain-test.false) in
    omega (arith, first-none (λ j. eqb (row_of t j).id c.args.id) 0 t.count (λ j a h p. c.loop-chain.invariant.2 j (omega arith) p))

pub returns : goal.returns
returns c = sym (when_yes _ _ (eq-eqb _ _ (missing (goal.at.returns c).After-loop-chain)))
