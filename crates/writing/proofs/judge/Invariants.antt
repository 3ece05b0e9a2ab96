-- The first rows are judged, and are good.
use Rattle.writing.proofs.Loops.{Judged}
use Rattle.writing.proofs.judge.Given as goal

abbrev pub invariant-loop-chain : goal.invariant-loop-chain
invariant-loop-chain l = Judged l.rows l.chain l.judged
