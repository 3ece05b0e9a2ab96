-- Each row is a chain's, read where its record starts.
use Prim.Native.Nat.{◌<◌, ◌≤◌}
use native.Mathlib.Omega.{arith}
use mathlib.Core.Path.{refl, sym, ◌∙◌}
use borrow.Author.Tests.{lt-ltb, le-ltb}
use lib.ListN.{length}
use Rattle.search.specs.Choice.{◌when◌else◌}
use Rattle.table.specs.Code.Taken.{Taken}
use Rattle.table.specs.Read.{table_of}
use Rattle.table.proofs.Accepted.{taken}
use Rattle.table.proofs.Firsts.{handed_on}
use Rattle.table.proofs.Standing.{place_none}
use Rattle.writing.specs.Fill.{filled_of}
use Rattle.writing.proofs.Loops.{fill_stands, fill_on, place-next, all-filled}
use Rattle.writing.proofs.read.Goals as goal
use Rattle.writing.proofs.read.Goals.{In_ok-judge, Else-rows-chains}

whole : (c : In_ok-judge) → Taken c.args.s.now
whole c = taken c.args.s.now (λ k. (c.type_inv.s k).fits) (sym c.judge.ensures ∙ c.in_ok-judge.was)

-- the chains have room
room : (c : Else-rows-chains) → (table_of c.args.s.now).count ≤ length c.args.rows.now
room c = omega (arith, c.count-chains.ensures, c.if-rows-chains.false)

pub returns-in_err-judge : goal.returns-in_err-judge
unfolding filled_of ◌when◌else◌
returns-in_err-judge c = rw (handed_on _ c.from_residual.ensures.1) (record { answers = rw (← c.judge.ensures, c.in_err-judge.was); leaves = refl })

pub count-chains-requires : goal.count-chains-requires
count-chains-requires c = whole (goal.at.count-chains-requires c).In_ok-judge

pub returns-then-rows-chains : goal.returns-then-rows-chains
unfolding filled_of ◌when◌else◌
returns-then-rows-chains c = record { answers = rw (← c.judge.ensures, c.in_ok-judge.was, ← c.count-chains.ensures, lt-ltb _ _ c.if-rows-chains.true); leaves = refl }

pub loop-chain-init : goal.loop-chain-init
loop-chain-init c = record { place = place_none (table_of c.args.s.now); filled = refl }

pub row_at-requires : goal.row_at-requires
row_at-requires c = let l = c.loop-chain in
    let g = goal.at.row_at-requires c in
    fill_stands c.args.s.now c.args.rows.now (whole g.In_ok-judge) (room g.Else-rows-chains) l.chain l.at (omega (arith, c.count-chains.ensures)) l.invariant.place

pub after-at-requires : goal.after-at-requires
after-at-requires c = let l = c.loop-chain in
    let g = goal.at.after-at-requires c in
    fill_stands c.args.s.now c.args.rows.now (whole g.In_ok-judge) (room g.Else-rows-chains) l.chain l.at (omega (arith, c.count-chains.ensures)) l.invariant.place

pub loop-chain-preserved : goal.loop-chain-preserved
loop-chain-preserved c = let s = c.args.s.now in
    let before = c.args.rows.now in
    let l = c.loop-chain in
    let g = goal.at.loop-chain-preserved c in
    let here : l.chain < (table_of s).count = omega (arith, c.count-chains.ensures) in
    record {
      place = c.after-at.ensures ∙ place-next s before (whole g.In_ok-judge) (room g.Else-rows-chains) l.chain l.at here l.invariant.place;
      filled = rw (l.invariant.filled, c.row_at.ensures) (fill_on s before (whole g.In_ok-judge) (room g.Else-rows-chains) l.chain l.at here l.invariant.place);
    }

pub overflow_cast-result : goal.overflow_cast-result
overflow_cast-result c = omega (arith, c.count-chains.ensures, (whole (goal.at.overflow_cast-result c).In_ok-judge).good.few)

pub returns : goal.returns
unfolding filled_of ◌when◌else◌
returns c = let s = c.args.s.now in
    let l = c.loop-chain in
    let g = goal.at.returns c in
    record {
      answers = rw (← c.judge.ensures, c.in_ok-judge.was, ← c.count-chains.ensures, le-ltb _ _ c.if-rows-chains.false);
      leaves = l.invariant.filled ∙ all-filled s c.args.rows.now (whole g.In_ok-judge) (room g.Else-rows-chains) l.chain (omega (arith, c.count-chains.ensures));
    }
