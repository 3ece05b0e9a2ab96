-- Good rows that have room are put one after the other, and then the end record.
use Prim.Native.Nat.{◌<◌}
use native.Mathlib.Omega.{arith}
use mathlib.Core.Path.{◌≡◌, refl, subst, sym, ◌∙◌}
use lib.ListN.{length}
use Rattle.std.proofs.lemmas.List.{get_or_default}
use Rattle.std.specs.declared.result.Result.TheVariants.{Ok}
use Rattle.table.specs.Record.{blank}
use Rattle.table.specs.declared.Row.{Row}
use Rattle.table.proofs.Firsts.{handed_on}
use Rattle.slices.specs.Code.Wrote.{Wrote}
use Rattle.writing.specs.Rows.{row_bytes}
use Rattle.writing.specs.Code.Tally.{JudgedRows}
use Rattle.search.specs.Choice.{◌when◌else◌}
use Rattle.writing.specs.Code.Put.{fitted, RowRoom}
use Rattle.writing.proofs.Answering.{refused-is, fitted-is}
use Rattle.writing.proofs.Loops.{judged-short, rows_start, all-put, rows-room, rows_on, end-room, writes}
use Rattle.writing.proofs.write.Goals as goal
use Rattle.writing.proofs.write.Goals.{In_ok-judged, In_ok-length}

-- what was judged, and that it has room
judged : (c : In_ok-judged) → JudgedRows c.args.rows.now (Ok c.in_ok-judged.judged)
judged c = subst (JudgedRows c.args.rows.now) c.in_ok-judged.was c.judge.ensures

fits : (c : In_ok-length) → fitted c.in_ok-judged.judged (length c.args.out.now) ≡ Ok c.in_ok-length.length
fits c = sym c.fitted.ensures ∙ c.in_ok-length.was

-- each row that is put is there
few : (c : In_ok-length) → c.in_ok-judged.judged.count ≡ length c.args.rows.now
few c = all-put c.args.rows.now _ (subst (JudgedRows c.args.rows.now) c.in_ok-judged.was c.judge.ensures) c.args.out.now (fits c)

pub returns-in_err-judged : goal.returns-in_err-judged
unfolding ◌when◌else◌
returns-in_err-judged c = rw (handed_on _ c.from_residual.ensures.1)
    (record { answers = refused-is c.args.rows.now (subst (JudgedRows c.args.rows.now) c.in_err-judged.was c.judge.ensures) (length c.args.out.now); leaves = refl })

pub fitted-requires : goal.fitted-requires
fitted-requires c = judged-short _ (judged (goal.at.fitted-requires c).In_ok-judged).small

pub returns-in_err-length : goal.returns-in_err-length
unfolding ◌when◌else◌
returns-in_err-length c = let y = sym c.fitted.ensures ∙ c.in_err-length.was in
    rw (handed_on _ c.from_residual-in_err-length.ensures.1)
    (record { answers = sym y ∙ fitted-is c.args.rows.now _ (judged (goal.at.returns-in_err-length c).In_ok-judged) (length c.args.out.now); leaves = refl })

pub loop-chain-init : goal.loop-chain-init
loop-chain-init c = rows_start c.args.rows.now c.args.out.now

pub bounds-rows-chain : goal.bounds-rows-chain
bounds-rows-chain c = omega (arith, few (goal.at.bounds-rows-chain c).In_ok-length)

pub put_row-at-requires : goal.put_row-at-requires
put_row-at-requires c = let ys = c.args.rows.now in
    let l = c.loop-chain in
    let g = goal.at.put_row-at-requires c in
    let here : l.chain < length ys = omega (arith, few g.In_ok-length) in
    subst (λ (r : Row). RowRoom r l.out l.at) (get_or_default ys l.chain blank _ here)
    (rows-room ys _ (judged g.In_ok-judged) c.args.out.now (fits g.In_ok-length) l.out l.chain l.at l.invariant here)

pub loop-chain-preserved : goal.loop-chain-preserved
loop-chain-preserved c = let ys = c.args.rows.now in
    let l = c.loop-chain in
    let p = c.put_row-at in
    let here : l.chain < length ys = omega (arith, few (goal.at.loop-chain-preserved c).In_ok-length) in
    rows_on ys l.chain here c.args.out.now l.out p.new.out l.at p.result l.invariant
    (subst (λ (r : Row). Wrote l.out l.at (row_bytes r) p.new.out p.result) (get_or_default ys l.chain _ blank here) p.ensures)

pub put_end-requires : goal.put_end-requires
put_end-requires c = let g = goal.at.put_end-requires c in
    let l = c.loop-chain in (
      (judged g.In_ok-judged).small.count,
      end-room c.args.rows.now _ (judged g.In_ok-judged) c.args.out.now (fits g.In_ok-length) l.out l.chain l.at l.invariant (omega (arith, few g.In_ok-length)),
    )

pub returns : goal.returns
returns c = let g = goal.at.returns c in
    let l = c.loop-chain in
    writes c.args.rows.now _ (judged g.In_ok-judged) c.args.out.now (fits g.In_ok-length) l.out l.chain l.at l.invariant (omega (arith, few g.In_ok-length)) c.put_end.new.out c.put_end.ensures
