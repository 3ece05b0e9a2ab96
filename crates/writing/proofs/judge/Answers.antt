-- Each row is one more that is judged; the first at fault decides, and after the last all that decide are good.
use Prim.Native.Nat.{◌<◌}
use native.Mathlib.Omega.{arith}
use mathlib.Core.Path.{◌≡◌, subst, sym}
use lib.ListN.{length, get_or}
use Rattle.std.proofs.lemmas.List.{get_or_default}
use Rattle.table.proofs.Firsts.{handed_on}
use Rattle.table.specs.Record.{blank}
use Rattle.table.specs.declared.Row.{Row}
use Rattle.writing.specs.Code.Tally.{Judgement, JudgedWith, JudgedRows}
use Rattle.writing.proofs.Loops.{judged-start, judged-on, judged-refused, judged-end}
use Rattle.writing.proofs.judge.Goals as goal
use Rattle.writing.proofs.judge.Goals.{After-judged_with}

-- what was judged with the next row, which gave that
next : (c : After-judged_with) → (v : Judgement) → c.judged_with.result ≡ v → JudgedWith c.loop-chain.judged (get_or c.args.rows.now c.loop-chain.chain blank) v
next c v e = let here : c.loop-chain.chain < length c.args.rows.now = omega arith in
    subst (JudgedWith c.loop-chain.judged (get_or c.args.rows.now c.loop-chain.chain blank)) e
    (subst (λ (r : Row). JudgedWith c.loop-chain.judged r c.judged_with.result) (get_or_default c.args.rows.now c.loop-chain.chain _ blank here) c.judged_with.ensures)

pub loop-chain-init : goal.loop-chain-init
loop-chain-init c = rw c.unjudged-judged.ensures (judged-start c.args.rows.now)

pub judged_with-requires : goal.judged_with-requires
judged_with-requires c = c.loop-chain.invariant.small

pub loop-chain-preserved : goal.loop-chain-preserved
loop-chain-preserved c = judged-on c.args.rows.now _ _ c.loop-chain.invariant (omega arith) (next (goal.at.loop-chain-preserved c).After-judged_with _ c.in_ok-judged.was)

pub returns-in_err-judged : goal.returns-in_err-judged
returns-in_err-judged c = subst (JudgedRows c.args.rows.now) (sym (handed_on _ c.from_residual.ensures.1))
    (judged-refused c.args.rows.now _ _ c.loop-chain.invariant (omega arith) (next (goal.at.returns-in_err-judged c).After-judged_with _ c.in_err-judged.was))

pub returns : goal.returns
returns c = judged-end c.args.rows.now _ _ c.loop-chain.invariant (omega arith)
