-- All stretches and records so far end within what a number holds.
use Rattle.std.proofs.Common.{◌+◌, ◌*◌, ◌≤◌}
use Rattle.table.specs.Read.{table_of}
use Rattle.table.specs.Place.{place_of}
use Rattle.table_salvage.proofs.put_pieces.Given as goal

abbrev pub invariant-loop-chain : goal.invariant-loop-chain
invariant-loop-chain g l = l.at ≤ l.chain * 4294967296 + place_of (table_of l.table) l.chain
