-- The lists agree at each of the first i places.
use Prim.Native.Nat.{ℕ}
use mathlib.Core.Path.{sym, ap}
use mathlib.Core.List.{List}
use lib.ListN.{length, get_or}
use lib.Seq.{ext_get_or}
use native.Mathlib.Omega.{arith}
use Rattle.slices.proofs.Sameness.{same-yes, same_no}
use Rattle.slices.proofs.same.Goals as goal

pub returns-then-a-b : goal.returns-then-a-b
returns-then-a-b c = let a = c.args in
    sym (same_no a.a.now a.b.now (λ e. c.if-a-b.true (ap length e)))

pub returns-then-a-i : goal.returns-then-a-i
returns-then-a-i c = let a = c.args in
    sym (same_no a.a.now a.b.now (λ e. c.if-a-i.true (ap (λ (l : List ℕ). get_or l c.loop-i.i 0) e)))

pub returns : goal.returns
returns c = let a = c.args in
    sym (same-yes a.a.now a.b.now (ext_get_or 0 a.a.now a.b.now c.if-a-b.false (λ j h. c.loop-i.invariant j (omega arith))))
