-- The loop has stored the first i numbers, with 0 past them.
use Prim.Native.Nat.{◌≤◌, ◌-◌}
use mathlib.Core.Path.{◌≡◌}
use Rattle.table.specs.Bytes.{word}
use Rattle.table.specs.Record.{spaced, pad}
use Rattle.table.proofs.decode.list_of.Given as goal

abbrev pub invariant-loop-i : goal.invariant-loop-i
invariant-loop-i l = (l.i ≤ l.n) × (l.list ≡ pad 8 (spaced (word 4 l.s) 4 l.i l.from))
