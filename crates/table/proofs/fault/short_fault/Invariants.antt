-- What is left of the two lists, after `before`, has the first fault of all.
use Prim.Native.Nat.{◌≤◌, ◌+◌, ◌*◌, ◌-◌}
use mathlib.Core.Path.{◌≡◌}
use Rattle.table.specs.Bytes.{word}
use Rattle.table.specs.Record.{spaced}
use Rattle.table.specs.Fault.{short_fault}
use Rattle.table.proofs.fault.short_fault.Given as goal

abbrev pub invariant-loop-i : goal.invariant-loop-i
invariant-loop-i l = (l.i ≤ l.n) × (short_fault l.before (spaced (word 4 l.s) 4 (l.n - l.i) (l.from + 4 * l.i)) (spaced (word 4 l.s) 4 (l.n - l.i) (l.at + 4 * l.i)) (l.at + 4 * l.i) ≡ short_fault 0 (spaced (word 4 l.s) 4 l.n l.from) (spaced (word 4 l.s) 4 l.n l.at) l.at)
