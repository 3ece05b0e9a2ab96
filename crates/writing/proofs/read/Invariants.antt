-- The first rows are filled, and the next record starts where the last one ended.
use mathlib.Core.Path.{◌≡◌}
use Rattle.table.specs.Read.{table_of}
use Rattle.table.specs.Place.{place_of}
use Rattle.writing.specs.Code.Rows.{filled_to}
use Rattle.writing.proofs.read.Given as goal

abbrev pub invariant-loop-chain : goal.invariant-loop-chain
invariant-loop-chain l = record {
  place : l.at ≡ place_of (table_of l.s) l.chain;
  filled : l.rows ≡ filled_to l.s l.initial.rows l.chain;
}
