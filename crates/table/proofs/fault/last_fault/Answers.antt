-- The last of n distances is the one that was read.
use native.Mathlib.Omega.{arith}
use borrow.Author.Tests.{eq-eqb, ne_eqb}
use Rattle.search.specs.Choice.{◌when◌else◌}
use Rattle.table.specs.Bytes.{word}
use Rattle.table.specs.Fault.{last_fault}
use Rattle.table.proofs.Lists.{length-spaced, spaced-last}
use Rattle.table.proofs.fault.last_fault.Goals as goal

pub returns-then-u32_at-eq0 : goal.returns-then-u32_at-eq0
unfolding last_fault ◌when◌else◌
returns-then-u32_at-eq0 c = let a = c.args in
    rw (spaced-last (word 4 a.s.now) 4 a.n a.at (omega arith), length-spaced (word 4 a.s.now) 4 a.n a.at, ← c.u32_at.ensures, eq-eqb _ _ c.if-u32_at-eq0.true)

pub returns : goal.returns
unfolding last_fault ◌when◌else◌
returns c = let a = c.args in
    rw (spaced-last (word 4 a.s.now) 4 a.n a.at (omega arith), length-spaced (word 4 a.s.now) 4 a.n a.at, ← c.u32_at.ensures, ne_eqb _ _ c.if-u32_at-eq0.false)
