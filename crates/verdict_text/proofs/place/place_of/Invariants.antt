-- A record's start and the offset from it make up the place.
use Rattle.std.proofs.Common.{◌≡◌, ◌+◌}
use Rattle.verdict_text.proofs.place.place_of.Given as goal

abbrev pub invariant-loop-record : goal.invariant-loop-record
invariant-loop-record l = l.start + l.offset ≡ l.at
