-- The loop has decoded the first rows; the next record starts at `at`.
use mathlib.Core.Path.{◌≡◌}
use Rattle.table.specs.Place.{place_of}
use Rattle.table.specs.Read.{table_of}
use Rattle.table.proofs.Rows.{Decoded}
use Rattle.table.proofs.decode.rows.Given as goal

abbrev pub invariant-loop-chain : goal.invariant-loop-chain
invariant-loop-chain l = (l.at ≡ place_of (table_of l.s) l.chain) × Decoded (table_of l.s) l.t × (l.t.count ≡ l.chain)
