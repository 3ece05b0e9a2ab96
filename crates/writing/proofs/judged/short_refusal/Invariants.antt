-- None of the first i largest distances falls, is too large or lies below the smallest.
use Prim.Native.Nat.{◌*◌}
use mathlib.Core.Path.{◌≡◌}
use lib.ListN.{take, drop}
use Rattle.table.specs.Fault.{short_fault}
use Rattle.table.specs.Read.{refused_by}
use Rattle.writing.proofs.judged.short_refusal.Given as goal

abbrev pub invariant-loop-i : goal.invariant-loop-i
invariant-loop-i l = refused_by (short_fault l.before (drop l.i (take l.n l.list)) (drop l.i (take l.n l.largest)) (4 * l.i))
    ≡ refused_by (short_fault 0 (take l.n l.list) (take l.n l.largest) 0)
