-- `adds_up` meets its contract. The loop's invariant: each step shorter than i adds up.
use Prim.Native.Nat.{◌≤◌}
use native.Mathlib.Omega.{arith}
use borrow.Author.Count.{below_more}
use lib.ListN.{length}
use Rattle.search.proofs.Choice.{tells-so, tells-not}
use Rattle.table.specs.Code.Listed.{distances_from}
use Rattle.arrivals.proofs.Rows.{lists_length, lists-inside}
use Rattle.arrivals.proofs.head.adds_up.Goals as goal

pub listed_from-listed-requires : goal.listed_from-listed-requires
listed_from-listed-requires c = lists-inside c.requires

pub loop-i-init : goal.loop-i-init
loop-i-init c = λ k l h. absurd (omega arith)

pub adds_with-requires : goal.adds_with-requires
adds_with-requires c = (c.requires, omega (arith, c.listed_from-listed.ensures.0))

pub returns-then-not-adds_with : goal.returns-then-not-adds_with
returns-then-not-adds_with c =
    let high : c.loop-i.i ≤ length (distances_from c.args.s.now c.args.list) = omega (arith, c.loop-i-test.true, c.listed_from-listed.ensures.0, lists_length c.requires) in
    tells-not (λ a. c.adds_with.ensures.not c.if-not-adds_with.true (a.with c.loop-i.i c.loop-i.auto.i high))

pub loop-i-preserved : goal.loop-i-preserved
loop-i-preserved c = below_more _ _ c.loop-i.invariant (λ l. c.adds_with.ensures.so c.if-not-adds_with.false)

pub returns : goal.returns
returns c = tells-so (record { with = λ i low h. c.loop-i.invariant i (omega (arith, h, c.loop-i-test.false, c.listed_from-listed.ensures.0, lists_length c.requires)) low })
