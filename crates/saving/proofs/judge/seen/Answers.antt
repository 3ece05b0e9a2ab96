-- At the loop's head `at` is the place of `chain`, and no record before it is the old one.
use Prim.Native.Nat.{ℕ, ◌<◌, ◌+◌, ◌-◌}
use mathlib.Core.Path.{◌≡◌, ap, ap₂, sym, ◌∙◌}
use mathlib.Core.List.{List}
use mathlib.Core.Bool.{true}
use lib.ListN.{take, drop}
use borrow.Author.Count.{below_more}
use native.Mathlib.Omega.{arith}
use borrow.Author.Tests.{eq-eqb, ne_eqb}
use Rattle.std.specs.Prelude.{Some}
use Rattle.search.proofs.Choice.{when_yes, when_no, true-not-false}
use Rattle.table.specs.Find.{row_of}
use Rattle.table.specs.Place.{length_of}
use Rattle.table.specs.Code.Taken.{Stands}
use Rattle.table.specs.Read.{table_of}
use Rattle.table.proofs.Standing.{place_none}
use Rattle.table.proofs.Stands.{length-at, row-there, stands, place-next}
use Rattle.slices.specs.Slices.{same}
use Rattle.slices.specs.Stored.{record_of}
use Rattle.saving.proofs.Seen.{seen-is, seen_none}
use Rattle.saving.proofs.judge.seen.Goals as goal
use Rattle.saving.proofs.judge.seen.Goals.{After-record_length, In-loop-chain}

-- `chain` is there
within : (c : In-loop-chain) → c.loop-chain.chain < (table_of c.args.s.now).count
within c = omega (arith, c.count-chain-end.ensures)

there : (c : In-loop-chain) → Stands c.args.s.now c.loop-chain.at
there c = stands c.requires c.loop-chain.invariant.0 (within c)

-- its record, as the loop takes it
abbrev bytes : (c : After-record_length) → List ℕ
bytes c = c.args.s.now

abbrev at : (c : After-record_length) → ℕ
at c = c.loop-chain.at

taken : (c : After-record_length) → record_of (bytes c) c.loop-chain.chain ≡ take (at c + c.record_length.result - at c) (drop (at c) (bytes c))
unfolding record_of
taken c = let s = bytes c in
    let l = c.loop-chain in
    let row = row-there c.requires l.invariant.0 (omega (arith, c.count-chain-end.ensures)) in
    let e : l.at + c.record_length.result - l.at ≡ length_of (row_of (table_of s) l.chain) = omega (arith, c.record_length.ensures, length-at s l.at, ap length_of row) in
    ap₂ (λ n p. take n (drop p s)) (sym e) (sym l.invariant.0)

pub loop-chain-init : goal.loop-chain-init
loop-chain-init c = (place_none (table_of c.args.s.now), λ j h e. absurd (omega arith))

pub record_length-requires : goal.record_length-requires
record_length-requires c = omega (arith, (there c).there)

pub overflow_add-end : goal.overflow_add-end
overflow_add-end c = omega (arith, c.record_length.ensures, (there (goal.at.overflow_add-end c).In-loop-chain).there)

pub slice_bounds-same-end : goal.slice_bounds-same-end
slice_bounds-same-end c = omega (arith, c.record_length.ensures, (there (goal.at.slice_bounds-same-end c).In-loop-chain).there)

pub returns-then-same : goal.returns-then-same
returns-then-same c =
    let here = goal.at.returns-then-same c in
    let stored : same (record_of c.args.s.now c.loop-chain.chain) c.args.old.now ≡ true = rw (taken here.After-record_length) (sym c.same.ensures ∙ c.if-same.true) in
    let is = seen-is c.args.s.now c.args.old.now c.loop-chain.chain (within here.In-loop-chain) stored c.loop-chain.invariant.1 in
    sym (when_no _ _ (ne_eqb _ _ (omega (arith, is, within here.In-loop-chain))) ∙ ap Some is)

pub loop-chain-preserved : goal.loop-chain-preserved
loop-chain-preserved c = let l = c.loop-chain in
    let here = goal.at.loop-chain-preserved c in (
      ap (λ n. l.at + n) c.record_length.ensures ∙ place-next c.requires l.invariant.0 (within here.In-loop-chain),
      below_more _ _ l.invariant.1 (λ e. true-not-false (rw (taken here.After-record_length) at e) (sym c.same.ensures ∙ c.if-same.false)),
    )

pub returns : goal.returns
returns c = sym (when_yes _ _ (eq-eqb _ _ (seen_none c.args.s.now c.args.old.now (λ j h. c.loop-chain.invariant.1 j (omega (arith, c.count-chain-end.ensures, c.loop-chain-test.false))))))
