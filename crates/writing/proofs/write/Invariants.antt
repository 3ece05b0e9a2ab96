-- The first rows are put, one after the other.
use Rattle.slices.specs.Code.Wrote.{Wrote}
use Rattle.writing.specs.Code.Put.{row_records}
use Rattle.writing.proofs.write.Given as goal

abbrev pub invariant-loop-chain : goal.invariant-loop-chain
invariant-loop-chain l = Wrote l.initial.out 0 (row_records l.rows l.chain) l.out l.at
