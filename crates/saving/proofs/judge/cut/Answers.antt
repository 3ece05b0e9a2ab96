-- Fewer than two bytes are fewer than any fixed part.
use native.Mathlib.Omega.{arith}
use borrow.Author.Tests.{lt-ltb}
use mathlib.Core.Path.{sym}
use lib.ListN.{length}
use Rattle.table.specs.Record.{form_at, head_length}
use Rattle.saving.proofs.judge.cut.Goals as goal

pub returns-then-new-lt2 : goal.returns-then-new-lt2
returns-then-new-lt2 c = let new = c.args.new.now in
    sym (lt-ltb (length new) (head_length (form_at new 0)) (omega (arith, c.if-new-lt2.true)))

pub returns : goal.returns
returns c = rw (c.head_length.ensures.0, c.form_at.ensures)
