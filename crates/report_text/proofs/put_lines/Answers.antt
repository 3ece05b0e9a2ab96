-- After the header, the lines of the chains up to that one.
use Prim.Native.Nat.{◌<◌}
use native.Mathlib.Omega.{arith}
use mathlib.Core.Path.{◌≡◌, subst}
use mathlib.Core.List.{◌++◌}
use Rattle.table.specs.Read.{table_of}
use Rattle.report_text.specs.Report.{header}
use Rattle.slices.specs.Code.Wrote.{Wrote}
use Rattle.report_text.specs.Code.Writing.{lines_in}
use Rattle.report_text.proofs.Answers.{lines_none, lines_on}
use Rattle.slices.proofs.Writes.{wrote_on}
use Rattle.report_text.proofs.put_lines.Goals as goal
use Rattle.report_text.proofs.put_lines.Goals.{In-loop-chain}

-- that chain is there
within : (c : In-loop-chain) → c.loop-chain.chain < (table_of c.args.s.now).count
within c = omega (arith, c.count-chain-end.ensures, c.loop-chain-test.true)

pub put_text-at-requires : goal.put_text-at-requires
put_text-at-requires c = omega (arith, c.requires.0)

pub loop-chain-init : goal.loop-chain-init
loop-chain-init c = let e = c.put_text-at.ensures.ends in
    (omega arith, omega arith, lines_none (table_of c.args.s.now) c.put_text-at.new.out c.put_text-at.result (omega (arith, e, c.put_text-at.ensures.long, c.requires.0)))

pub put_line-at-requires : goal.put_line-at-requires
put_line-at-requires c = let h = c.put_text-at.ensures in
    let l = c.loop-chain in
    (omega (arith, l.invariant.1, l.invariant.2.long, h.ends, h.long, c.requires.0, c.requires.1.good.few, within (goal.at.put_line-at-requires c).In-loop-chain), c.requires.1, within (goal.at.put_line-at-requires c).In-loop-chain)

pub loop-chain-preserved : goal.loop-chain-preserved
loop-chain-preserved c = let l = c.loop-chain in
    let w = c.put_line-at.ensures in
    (omega (arith, c.loop-chain-test.true), omega (arith, l.invariant.1, w.1), rw (lines_on) (wrote_on l.invariant.2 w.0))

pub returns : goal.returns
returns c = let l = c.loop-chain in
    let t = table_of c.args.s.now in
    let e : l.chain ≡ t.count = omega (arith, c.loop-chain-test.false, l.invariant.0, c.count-chain-end.ensures) in
    subst (λ n. Wrote c.args.out.now 0 (header ++ lines_in t n) l.out l.at) e (wrote_on c.put_text-at.ensures l.invariant.2)
