-- The gap is too small for what is left where it is for the whole list.
use Prim.Native.Nat.{◌≤◌, ◌+◌, ◌*◌, ◌-◌}
use mathlib.Core.Path.{◌≡◌}
use Rattle.table.specs.Bytes.{word}
use Rattle.table.specs.Record.{spaced}
use Rattle.table.specs.Fault.{gap_short}
use Rattle.table.proofs.fault.gap_short.Given as goal

abbrev pub invariant-loop-i : goal.invariant-loop-i
invariant-loop-i l = (l.i ≤ l.n) × (gap_short l.gap (l.i + 1) (spaced (word 4 l.s) 4 (l.n - l.i) (l.at + 4 * l.i)) ≡ gap_short l.gap 1 (spaced (word 4 l.s) 4 l.n l.at))
