-- The test of the first mark; fewer than two bytes make none.
use native.Mathlib.Omega.{arith}
use borrow.Author.Tests.{ne_eqb}
use Rattle.search.specs.Choice.{◌when◌else◌}
use Rattle.table.specs.Bytes.{word}
use Rattle.table.specs.Record.{largest_form}
use Rattle.table.specs.Read.{limit_of}
use Rattle.table.proofs.Forms.{no_mark}
use Rattle.table.proofs.reader.limit.Goals as goal

pub returns-then-s-lt2 : goal.returns-then-s-lt2
unfolding limit_of ◌when◌else◌
returns-then-s-lt2 c = let s = c.args.s.now in
    rw (ne_eqb (word 2 s 0) largest_form (λ e. omega (arith, e, no_mark s (λ i. omega (arith, c.shared_slice_known-1.given i)) c.if-s-lt2.true)))

pub returns-then-has_flag : goal.returns-then-has_flag
unfolding limit_of ◌when◌else◌
returns-then-has_flag c = rw (← c.form_at.ensures, ← c.has_flag.ensures, c.if-has_flag.true)

pub returns : goal.returns
unfolding limit_of ◌when◌else◌
returns c = rw (← c.form_at.ensures, ← c.has_flag.ensures, c.if-has_flag.false)
