-- After the header, the lines of the chains up to that one.
use Prim.Native.Nat.{◌+◌, ◌*◌, ◌≤◌}
use Rattle.table.specs.Read.{table_of}
use Rattle.slices.specs.Code.Wrote.{Wrote}
use Rattle.report_text.specs.Code.Writing.{lines_in}
use Rattle.report_text.proofs.put_lines.Given as goal

abbrev pub invariant-loop-chain : goal.invariant-loop-chain
invariant-loop-chain l = (l.chain ≤ l.chain-end) × (l.at ≤ l.initial.at + 68 * l.chain) × Wrote l.initial.out l.initial.at (lines_in (table_of l.s) l.chain) l.out l.at
